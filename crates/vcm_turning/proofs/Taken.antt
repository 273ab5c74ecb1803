-- A step that is taken, and the turn behind it.
use Rattle.std.proofs.Common.{◌≡◌, ℕ, List, slice_get, Option, Some, None, Ok, Err, refl, sym, ap, subst, ◌∙◌}
use Rattle.vcm_num.specs.declared.point.Point.{Point}
use Rattle.vcm_spec.specs.declared.stop.Stop.{Stop}
use Rattle.vcm_spec.specs.declared.stop.StopPlace.{StopPlace}
use Rattle.vcm_spec.specs.Setup.{setup_of}
use Rattle.vcm_spec.specs.Stepping.{unless_stopped}
use Rattle.vcm_spec.specs.Workpiece.{Workpiece}
use Rattle.vcm_spec.specs.World.{World, stopped}
use Rattle.vcm_state.specs.declared.stop.Halt.TheVariants as halts
use Rattle.vcm_state.specs.Held.{Held}
use Rattle.vcm_code.specs.declared.pair.Pair.{Pair}
use Rattle.vcm_code.specs.declared.code.Code.{Code}
use Rattle.vcm_code.specs.Code.{CodeStatement}
use Rattle.vcm_code.specs.CodeTable.{CodeState, code_state, do_op}
use Rattle.vcm_machine.specs.Going.{HasGone as Gone}
use Rattle.vcm_machine.specs.Running.{Running}
use Rattle.vcm_machine.specs.inner.Runnable.{IsRunnable}
use Rattle.vcm_machine.proofs.Codes.{same_at}
use Rattle.vcm_machine.proofs.StepLemmas as steps
use Rattle.vcm_probe_set.specs.Probes.{Probe}
use Rattle.vcm_turning.specs.declared.turn.Turn.{Turn}
use Rattle.vcm_turning.specs.Choosing.{value_of, probe_on, put_at, place_with, part_by}
use Rattle.vcm_turning.specs.Turning.{put_behind, put_on, taken}
use Rattle.vcm_turning.specs.Machine.{Turner, turned_of, StandsAt, HasGone, HasTurned, stepped_of, halted, with_probe}

-- a machine with a probe put on is otherwise the same
pub put_is : (m : Turner) (put : Option ℕ) → turned_of (with_probe m put) ≡ put_on m.probes m.state m.on put
put_is m None = refl
put_is m (Some i) = refl

pub part_kept : (m : Turner) (put : Option ℕ) → (with_probe m put).part ≡ m.part
part_kept m None = refl
part_kept m (Some i) = refl

pub probes_kept : (m : Turner) (put : Option ℕ) → (with_probe m put).probes ≡ m.probes
probes_kept m None = refl
probes_kept m (Some i) = refl

pub variable_kept : (m : Turner) (put : Option ℕ) → (with_probe m put).variable ≡ m.variable
variable_kept m None = refl
variable_kept m (Some i) = refl

pub code_kept : (m : Turner) (put : Option ℕ) → (with_probe m put).code ≡ m.code
code_kept m None = refl
code_kept m (Some i) = refl

-- ---- the step of the code

module _ (part : Workpiece) (probes : List Probe) (v : ℕ) (code : Code) (w : Held) (n : ℕ) (ps : List Pair) (on : Option ℕ) (t : w.tables ≡ code.tables)
    (runnable : IsRunnable code) (s : CodeStatement) (at : slice_get code.statements n ≡ Some s) (none : w.state.stop ≡ None) where
  abbrev in_state : CodeState → Turner
  in_state m = record { part = part; probes = probes; variable = v; code = code; state = m; on = on }

  abbrev here : Turner
  here = in_state (code_state w.state n ps)

  abbrev after : CodeState
  after = do_op (setup_of (part_by part probes on) w.tables) s.op s.line w.state n ps

  -- want of memory, or a stop, left it as it was
  kept_so : (new : World) (qs : List Pair) → new ≡ w.state → qs ≡ ps → in_state (code_state new n qs) ≡ here
  kept_so new qs e f = ap (λ (q : List Pair). in_state (code_state new n q)) f ∙ ap (λ (x : World). in_state (code_state x n ps)) e

  pub kept : (new : World) (qs : List Pair) → Gone after n s.line w.state new ps qs (Err halts.NoMemory) → in_state (code_state new n qs) ≡ here
  kept new qs h = kept_so new qs h.1 h.2

  -- it went on
  pub gone_on : (new : World) (k : ℕ) (qs : List Pair) → Gone after n s.line w.state new ps qs (Ok k) → new.stop ≡ w.state.stop
      → HasGone here None (in_state (code_state new k qs))
  gone_on new k qs h stop =
      (ap in_state (ap (λ (r : Running). r.state) (steps.goes (part_by part probes on) code w n ps t runnable s at none new k qs h)), stop ∙ none)

  -- it stopped
  pub gone_off : (new : World) (why : Stop) (qs : List Pair) → Gone after n s.line w.state new ps qs (Err (halts.Stop why))
      → HasGone here (Some why) (in_state (code_state new n qs))
  gone_off new why qs h =
      let stops = steps.stops (part_by part probes on) code w n ps t runnable s at none new (stopped new why n s.line) why qs h refl in (
        kept_so new qs h.1 h.2,
        s,
        at,
        sym (ap (λ (r : Running). r.state) stops) ∙ ap (λ (x : World). code_state (stopped x why n s.line) n qs) h.1
            ∙ ap (λ (x : List Pair). code_state (stopped w.state why n s.line) n x) h.2,
      )

-- ---- the turn behind it

module _ (old : Turner) where
  abbrev moved : CodeState → Turner
  moved m = record old { state = m }

  abbrev step : CodeState
  step = stepped_of old

  -- what is put on behind a step that came to this state
  behind : (m : CodeState) (o : Option StopPlace) → step ≡ m → m.world.stop ≡ o
      → put_behind old.probes old.variable step old.on ≡ unless_stopped o None (put_at old.probes old.on (value_of m.world old.variable))
  behind m o e f =
      ap (λ (x : CodeState). put_behind old.probes old.variable x old.on) e
      ∙ ap (λ (x : Option StopPlace). unless_stopped x None (put_at old.probes old.on (value_of m.world old.variable))) f

  taken_by : (m : CodeState) (put : Option ℕ) → step ≡ m → put_behind old.probes old.variable step old.on ≡ put
      → taken old.part old.probes old.variable old.code (turned_of old) ≡ put_on old.probes m old.on put
  taken_by m put e f = ap (λ (x : Option ℕ). put_on old.probes step old.on x) f ∙ ap (λ (x : CodeState). put_on old.probes x old.on put) e

  -- the machine stands where the step came to, with this probe put on
  turned_so : (m : CodeState) (put : Option ℕ) → step ≡ m → put_behind old.probes old.variable step old.on ≡ put → (turn : Turn) (final : Turner)
      → turn ≡ record { stood = m.world.position; put = put } → final ≡ with_probe (moved m) put → HasTurned old turn final
  turned_so m put e f turn final g h = record {
    part_is = ap (λ (x : Turner). x.part) h ∙ part_kept (moved m) put;
    probes_are = ap (λ (x : Turner). x.probes) h ∙ probes_kept (moved m) put;
    variable_is = ap (λ (x : Turner). x.variable) h ∙ variable_kept (moved m) put;
    code_is = ap (λ (x : Turner). x.code) h ∙ code_kept (moved m) put;
    taken = taken_by m put e f ∙ sym (put_is (moved m) put) ∙ sym (ap turned_of h);
    stood = ap (λ (x : Turn). x.stood) g ∙ sym (ap (λ (x : CodeState). x.world.position) e);
    put = ap (λ (x : Turn). x.put) g ∙ sym f;
  }

  -- it went on
  pub went_on : (mid : Turner) → HasGone old None mid → (turn : Turn) (final : Turner)
      → turn ≡ record { stood = mid.state.world.position; put = put_at mid.probes mid.on (value_of mid.state.world mid.variable) }
      → final ≡ with_probe mid turn.put → HasTurned old turn final
  went_on mid h turn final g f =
      let put = put_at old.probes old.on (value_of step.world old.variable) in
      let is : turn ≡ record { stood = step.world.position; put = put } =
      g ∙ ap (λ (x : Turner). record { stood = x.state.world.position; put = put_at x.probes x.on (value_of x.state.world x.variable) }) h.0 in
      let none : step.world.stop ≡ None = sym (ap (λ (x : Turner). x.state.world.stop) h.0) ∙ h.1 in
      turned_so step put refl (behind step None refl none) turn final is
      (f ∙ ap (λ (x : Turner). with_probe x turn.put) h.0 ∙ ap (λ (x : Turn). with_probe (moved step) x.put) is)

  -- it stopped
  pub stopped_there : (mid : Turner) (why : Stop) → HasGone old (Some why) mid → (turn : Turn) (final : Turner) → turn ≡ record { stood = mid.state.world.position; put = None }
      → (r : CodeStatement) × StandsAt mid r × (final ≡ halted mid r why) → HasTurned old turn final
  stopped_there mid why h turn final g l =
      let r = l.0 in
      let s = h.1 in
      let m = (halted old s why).state in
      let stands : StandsAt old r = subst (λ (x : Turner). StandsAt x r) h.0 l.1 in
      let same : r ≡ s = same_at old.code.statements old.state.next r s stands h.2 in
      turned_so m None h.3 (behind m m.world.stop h.3 refl) turn final
      (g ∙ ap (λ (x : Turner). record { stood = x.state.world.position; put = None }) h.0)
      (l.2 ∙ ap (λ (x : Turner). halted x r why) h.0 ∙ ap (λ (x : CodeStatement). halted old x why) same)

-- ---- a turn

-- a machine whose tip was put where the probe of this place hangs
pub put_there : (m : Turner) (i : ℕ) (q : Probe) (w : World) (at stood : Point) (o : Option Probe) (ps : List Probe) → w ≡ record (m.state.world) { position = at }
    → at ≡ place_with stood o (Some q) → stood ≡ m.state.world.position → o ≡ probe_on ps m.on → ps ≡ m.probes → slice_get ps i ≡ Some q
    → record m { state = code_state w m.state.next m.state.pairs; on = Some i } ≡ with_probe m (Some i)
put_there m i q w at stood o ps ew ea es eo ep ei =
    let there : at ≡ place_with m.state.world.position (probe_on m.probes m.on) (slice_get m.probes i) =
    ea ∙ ap (λ (x : Point). place_with x o (Some q)) es ∙ ap (λ (x : Option Probe). place_with m.state.world.position x (Some q)) eo
    ∙ ap (λ (x : Option Probe). place_with m.state.world.position (probe_on ps m.on) x) (sym ei)
    ∙ ap (λ (x : List Probe). place_with m.state.world.position (probe_on x m.on) (slice_get x i)) ep in
    ap (λ (x : World). record m { state = code_state x m.state.next m.state.pairs; on = Some i }) ew
    ∙ ap (λ (x : Point). record m { state = code_state (record (m.state.world) { position = x }) m.state.next m.state.pairs; on = Some i }) there
