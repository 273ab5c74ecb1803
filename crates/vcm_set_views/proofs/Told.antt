-- What is told of a run is told of the machine at its end.
use Rattle.std.specs.Prelude.{IfSome}
use Rattle.std.proofs.Common.{◌≡◌, ℕ, ◌+◌, ◌<◌, Bool, List, [], ◌++◌, length, Option, sym, ap, ◌∙◌, subst}
use Rattle.vcm_spec.specs.Setup.{Tables}
use Rattle.vcm_spec.specs.Workpiece.{Workpiece}
use Rattle.vcm_spec.specs.World.{World}
use Rattle.vcm_state.specs.Held.{Held}
use Rattle.vcm_picture.specs.Picture.{sheet, picture_text}
use Rattle.vcm_way.specs.Ways.{Kept}
use Rattle.vcm_turning.specs.declared.ended.Ended.{Ended}
use Rattle.vcm_turning.specs.declared.ended.Ended.TheVariants as end
use Rattle.vcm_turning.specs.declared.ended.NoProbe.{NoProbe}
use Rattle.vcm_turning.specs.declared.ended.Ran.{Ran}
use Rattle.vcm_turning.specs.Choosing.{probe_on, part_by}
use Rattle.vcm_turning.specs.Turning.{Turned}
use Rattle.vcm_turning.specs.Machine.{Turner, TurningEnded, HasRunTurned}
use Rattle.vcm_backtrace.specs.Sources.{Sourced}
use Rattle.vcm_why.specs.Reasons.{where_lines}
use Rattle.vcm_set_views.specs.declared.ends.SetEnd.{SetEnd}
use Rattle.vcm_set_views.specs.declared.running.Ending.{Ending}
use Rattle.vcm_set_views.specs.Fit.{Fit, behind, part_behind}
use Rattle.vcm_set_views.specs.Ends.{HasEnded, IsAtEnd, no_probe_line}
use Rattle.vcm_set_views.specs.Reasons.{held_at, known_at, wanting_line, reason_lines}
use Rattle.vcm_set_views.specs.Drawn.{kept_way, picture_of}

-- the machine that a run came to is at its end
pub at_end : (f : Fit) (n : ℕ) (new : Turner) (ran : Ran) (how : Ended) (e : Ending) → HasRunTurned n f.part f.probes f.variable f.code new ran
    → ran.end ≡ how → (how ≡ end.NoMemory → ⊥) → e.world.state ≡ new.state.world → e.world.tables ≡ new.code.tables → e.next ≡ new.state.next → e.next < length new.code.statements
    → e.on ≡ new.on → IfSome e.on (λ i. i < length new.probes) → e.end ≡ record { done = ran.done; end = how; stop = new.state.world.stop } → IsAtEnd f n e
at_end f n new ran how e run is ample state tables next within on there done =
    let reached = run.reached in
    let world = ap (λ (t : Turned). t.state.world) reached in
    let at : (k : SetEnd) → k ≡ record { done = ran.done; end = how; stop = new.state.world.stop } → HasEnded f n k = λ k e. subst (HasEnded f n) (sym e) (record {
      ended = subst (TurningEnded n f.part f.probes f.variable f.code ran.done) is run.ended;
      ample = ample;
      few = run.few;
      each = run.each;
      stop_is = ap (λ (w : World). w.stop) world;
    }) in
    let count = ap (λ (k : SetEnd). k.done) done in
    record {
      ended = at e.end done;
      state = state ∙ world ∙ sym (ap (λ (k : ℕ). (behind f k).state.world) count);
      tables = tables ∙ ap (λ c. c.tables) run.code_is;
      next = next ∙ ap (λ (t : Turned). t.state.next) reached ∙ sym (ap (λ (k : ℕ). (behind f k).state.next) count);
      within = subst (λ c. e.next < length c.statements) run.code_is within;
      on = on ∙ ap (λ (t : Turned). t.on) reached ∙ sym (ap (λ (k : ℕ). (behind f k).on) count);
      there = subst (λ ps. IfSome e.on (λ i. i < length ps)) run.probes_are there;
    }

-- its state with its tables
pub held_is : (h : Held) (tables : Tables) (state : World) → h.tables ≡ tables → h.state ≡ state → h ≡ record { tables = tables; state = state }
held_is h tables state e s = ap (λ (t : Tables). record { tables = t; state = h.state }) e ∙ ap (λ (w : World). record { tables = tables; state = w }) s

-- what is told of a run that ended without a probe
pub lost_is : (names : List (List ℕ)) (t : Option Sourced) (f : Fit) (e : SetEnd) (number at : ℕ) (l : NoProbe) (held : Held) (rounds : List ℕ) (on : Option ℕ) → held ≡ held_at f e.done
    → rounds ≡ (known_at f e.done).rounds → number ≡ at → on ≡ (behind f e.done).on
    → no_probe_line l (e.done + 1) ++ (where_lines t f.code.statements held rounds number l.line ++ wanting_line l (probe_on f.probes on)) ≡ reason_lines names t f e at (end.Lost l)
lost_is names t f e number at l held rounds on eh er en eo =
    ap (λ h. no_probe_line l (e.done + 1) ++ (where_lines t f.code.statements h rounds number l.line ++ wanting_line l (probe_on f.probes on))) eh
    ∙ ap (λ r. no_probe_line l (e.done + 1) ++ (where_lines t f.code.statements (held_at f e.done) r number l.line ++ wanting_line l (probe_on f.probes on))) er
    ∙ ap (λ n. no_probe_line l (e.done + 1)
    ++ (where_lines t f.code.statements (held_at f e.done) (known_at f e.done).rounds n l.line ++ wanting_line l (probe_on f.probes on))) en
    ∙ ap (λ o. no_probe_line l (e.done + 1)
    ++ (where_lines t f.code.statements (held_at f e.done) (known_at f e.done).rounds at l.line ++ wanting_line l (probe_on f.probes o))) eo

-- the picture of a machine at its end
pub drawn_is : (f : Fit) (e : SetEnd) (is_close : Bool) (part : Workpiece) (held : Held) (way : Kept) (on : Option ℕ) → part ≡ part_by f.part f.probes on → on ≡ (behind f e.done).on
    → held ≡ held_at f e.done → way ≡ kept_way f e.done
    → picture_text (sheet part held e.done way.marks way.left_out is_close []) ≡ picture_of f e is_close
drawn_is f e is_close part held way on ep eo eh ew =
    ap (λ (p : Workpiece). picture_text (sheet p held e.done way.marks way.left_out is_close [])) (ep ∙ ap (λ (o : Option ℕ). part_by f.part f.probes o) eo)
    ∙ ap (λ (h : Held). picture_text (sheet (part_behind f e.done) h e.done way.marks way.left_out is_close [])) eh
    ∙ ap (λ (k : Kept). picture_text (sheet (part_behind f e.done) (held_at f e.done) e.done k.marks k.left_out is_close [])) ew
