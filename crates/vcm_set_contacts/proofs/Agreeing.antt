-- The first contact is the stop of the run that turns its head.
use Rattle.std.proofs.Common.{◌≡◌, ℕ, zero, suc, Bool, true, false, List, [], ◌∷◌, ◌++◌, slice_get, Option, Some, None, refl, sym, ap, ◌∙◌, subst}
use Rattle.vcm_spec.specs.declared.stop.Stop.{Stop}
use Rattle.vcm_spec.specs.declared.stop.Stop.TheVariants.{Collision}
use Rattle.vcm_spec.specs.declared.stop.StopPlace.{StopPlace}
use Rattle.vcm_spec.specs.Stepping.{unless_stopped}
use Rattle.vcm_spec.specs.Workpiece.{Workpiece}
use Rattle.vcm_code.specs.Code.{CodeStatement}
use Rattle.vcm_code.specs.declared.code.Code.{Code}
use Rattle.vcm_code.specs.CodeTable.{CodeState}
use Rattle.vcm_way.specs.Ways.{reason}
use Rattle.vcm_probe_set.specs.Probes.{Probe}
use Rattle.vcm_turning.specs.declared.ended.NoProbe.{NoProbe}
use Rattle.vcm_turning.specs.Choosing.{part_by}
use Rattle.vcm_turning.specs.Turning.{Turned, is_lost, put_behind, put_on, stepped, left, taken, by_loss, turn_at, unless_ended, turn_step, turned_after}
use Rattle.vcm_contacts.specs.declared.contact.Contact.{Contact}
use Rattle.vcm_contacts.specs.Passing.{Passed, passed_by, passed_at, pass}
use Rattle.vcm_set_contacts.specs.Laws.{TurnsWith, FirstContactStopsTheTurning}
use Rattle.vcm_set_contacts.specs.Passing.{SetPassed, rests, turned_behind, turned_pass_at, turned_pass, set_passed_after}

-- a turn keeps the stop
stop_kept : (ps : List Probe) (m : CodeState) (on put : Option ℕ) → (put_on ps m on put).state.world.stop ≡ m.world.stop
stop_kept ps m on None = refl
stop_kept ps m on (Some i) = refl

module _ (part : Workpiece) (ps : List Probe) (v : ℕ) (c : Code) where
  module _ (t : Turned) where
    abbrev own : Workpiece
    own = part_by part ps t.on

    abbrev q : CodeState
    q = stepped part ps c t

    abbrev Agrees : Turned → SetPassed → Type 0
    Agrees run p = TurnsWith run p.turned p.contacts

    by_reason : (s : CodeStatement) (o : Option Stop) → reason q.world.stop ≡ o → Agrees (taken part ps v c t) (turned_behind ps v t.on (passed_by own t.state s q o))
    by_reason s (Some (Collision phase hit)) e = ap reason (stop_kept ps q t.on (put_behind ps v q t.on)) ∙ e
    by_reason s _ e = refl

    module _ (running : t.state.world.stop ≡ None) (s : CodeStatement) (stands : slice_get c.statements t.state.next ≡ Some s) where
      pass_is : pass own c t.state ≡ passed_by own t.state s q (reason q.world.stop)
      pass_is =
          ap (λ (x : Option StopPlace). unless_stopped x (record { state = t.state; contacts = [] }) (passed_at own t.state q (slice_get c.statements t.state.next))) running
          ∙ ap (passed_at own t.state q) stands

      by_taken : Agrees (taken part ps v c t) (turned_behind ps v t.on (pass own c t.state))
      by_taken = subst (λ (x : Passed). Agrees (taken part ps v c t) (turned_behind ps v t.on x)) (sym pass_is) (by_reason s (reason q.world.stop) refl)

      by_lost : (b : Bool) → Agrees (by_loss b (left v t s) (taken part ps v c t)) (by_loss b (rests (left v t s)) (turned_behind ps v t.on (pass own c t.state)))
      by_lost true = refl
      by_lost false = by_taken

    by_statement : t.state.world.stop ≡ None → (o : Option CodeStatement) → slice_get c.statements t.state.next ≡ o
        → Agrees (turn_at part ps v c t o) (turned_pass_at part ps v c t o)
    by_statement running None e = refl
    by_statement running (Some s) e = by_lost running s e (is_lost part.bounds.home ps v t s.op)

    by_stop : (o : Option StopPlace) → t.state.world.stop ≡ o
        → Agrees (unless_stopped o t (turn_at part ps v c t (slice_get c.statements t.state.next)))
        (unless_stopped o (rests t) (turned_pass_at part ps v c t (slice_get c.statements t.state.next)))
    by_stop (Some p) e = refl
    by_stop None e = by_statement e (slice_get c.statements t.state.next) refl

    by_end : (o : Option NoProbe) → Agrees (unless_ended o t (unless_stopped t.state.world.stop t (turn_at part ps v c t (slice_get c.statements t.state.next))))
        (unless_ended o (rests t) (unless_stopped t.state.world.stop (rests t) (turned_pass_at part ps v c t (slice_get c.statements t.state.next))))
    by_end (Some e) = refl
    by_end None = by_stop t.state.world.stop refl

    -- behind one step
    first : Agrees (turn_step part ps v c t) (turned_pass part ps v c t)
    first = by_end t.ended

  -- a run that has the first contact as its stop stays so
  stays_so : (run : Turned) (why : Stop) → reason run.state.world.stop ≡ Some why → reason (turn_step part ps v c run).state.world.stop ≡ Some why
  stays_so run why e = by run.ended run.state.world.stop e
    where
      next : Turned
      next = turn_at part ps v c run (slice_get c.statements run.state.next)

      by : (a : Option NoProbe) (o : Option StopPlace) → reason o ≡ Some why → reason (unless_ended a run (unless_stopped o run next)).state.world.stop ≡ Some why
      by (Some l) o f = e
      by None (Some p) f = e
      by None None f = absurd (let no : None ≡ Some why = f in cc)

  one_more : (run passed : Turned) (cs : List Contact) → TurnsWith run passed cs
      → TurnsWith (turn_step part ps v c run) (turned_pass part ps v c passed).turned (cs ++ (turned_pass part ps v c passed).contacts)
  one_more run passed [] h =
      subst (λ (m : Turned). TurnsWith (turn_step part ps v c m) (turned_pass part ps v c passed).turned (turned_pass part ps v c passed).contacts) (sym h) (first passed)
  one_more run passed (x ∷ cs) h = stays_so run (Collision x.phase x.hit) h

  agrees : (n : ℕ) → TurnsWith (turned_after part ps v c n) (set_passed_after part ps v c n).turned (set_passed_after part ps v c n).contacts
  agrees zero = refl
  agrees (suc n) = one_more (turned_after part ps v c n) (set_passed_after part ps v c n).turned (set_passed_after part ps v c n).contacts (agrees n)

pub first_stops_the_turning : FirstContactStopsTheTurning
first_stops_the_turning part ps v c n = agrees part ps v c n
