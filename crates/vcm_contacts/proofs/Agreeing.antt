-- The first contact is the stop of the run.
use Rattle.std.proofs.Common.{◌≡◌, ℕ, zero, suc, ◌+◌, List, [], ◌∷◌, ◌++◌, slice_get, Option, Some, None, refl, sym, ap, ◌∙◌, subst, arith}
use Rattle.vcm_spec.specs.declared.stop.Stop.{Stop}
use Rattle.vcm_spec.specs.declared.stop.Stop.TheVariants.{Collision}
use Rattle.vcm_spec.specs.declared.stop.StopPlace.{StopPlace}
use Rattle.vcm_spec.specs.Setup.{setup_of}
use Rattle.vcm_spec.specs.Stepping.{unless_stopped}
use Rattle.vcm_spec.specs.Workpiece.{Workpiece}
use Rattle.vcm_spec.proofs.Steps.{add_steps}
use Rattle.vcm_code.specs.declared.code.Code.{Code}
use Rattle.vcm_code.specs.Code.{CodeStatement}
use Rattle.vcm_code.specs.CodeTable.{CodeState, code_step, fetched, start}
use Rattle.vcm_steps.specs.Passages.{state_after}
use Rattle.vcm_way.specs.Ways.{reason}
use Rattle.vcm_contacts.specs.declared.contact.Contact.{Contact}
use Rattle.vcm_contacts.specs.Passing.{passed_by, passed_at, pass, passed_after}
use Rattle.vcm_contacts.specs.Laws.{AgreesWith, FirstContactIsTheStop}

module _ (part : Workpiece) (c : Code) where
  abbrev go : CodeState → CodeState
  go = code_step (setup_of part c.tables) c.statements

  -- a stopped state doesn't change
  rests : (m : CodeState) (p : StopPlace) → m.world.stop ≡ Some p → go m ≡ m
  rests m p e = ap (λ (o : Option StopPlace). unless_stopped o m (fetched (setup_of part c.tables) (slice_get c.statements m.next) m.world m.next m.pairs)) e

  by_stop : (m : CodeState) (s : CodeStatement) (o : Option Stop) → reason (go m).world.stop ≡ o → AgreesWith (go m) (passed_by part m s (go m) o).state (passed_by part m s (go m) o).contacts
  by_stop m s (Some (Collision phase hit)) e = e
  by_stop m s _ e = refl

  by_statement : (m : CodeState) (o : Option CodeStatement) → AgreesWith (go m) (passed_at part m (go m) o).state (passed_at part m (go m) o).contacts
  by_statement m None = refl
  by_statement m (Some s) = by_stop m s (reason (go m).world.stop) refl

  -- behind one step
  first : (m : CodeState) → AgreesWith (go m) (pass part c m).state (pass part c m).contacts
  first m = by m.world.stop refl
    where
      by : (o : Option StopPlace) → m.world.stop ≡ o → AgreesWith (go m) (unless_stopped o (record { state = m; contacts = [] }) (passed_at part m (go m) (slice_get c.statements m.next))).state
          (unless_stopped o (record { state = m; contacts = [] }) (passed_at part m (go m) (slice_get c.statements m.next))).contacts
      by (Some p) e = rests m p e
      by None e = by_statement m (slice_get c.statements m.next)

  -- a run that has the first contact as its stop stays so
  stays_so : (run : CodeState) (why : Stop) → reason run.world.stop ≡ Some why → reason (go run).world.stop ≡ Some why
  stays_so run why e = by run.world.stop refl e
    where
      by : (o : Option StopPlace) → run.world.stop ≡ o → reason o ≡ Some why → reason (go run).world.stop ≡ Some why
      by (Some p) f g = ap (λ (m : CodeState). reason m.world.stop) (rests run p f) ∙ ap reason f ∙ g
      by None f g = absurd cc

  one_more : (run passed : CodeState) (cs : List Contact) → AgreesWith run passed cs → AgreesWith (go run) (pass part c passed).state (cs ++ (pass part c passed).contacts)
  one_more run passed [] h = subst (λ (m : CodeState). AgreesWith (go m) (pass part c passed).state (pass part c passed).contacts) (sym h) (first passed)
  one_more run passed (x ∷ cs) h = stays_so run (Collision x.phase x.hit) h

  next_state : (n : ℕ) → state_after part c (suc n) ≡ go (state_after part c n)
  next_state n = ap (state_after part c) (let e : suc n ≡ n + 1 = omega arith in e) ∙ add_steps go n 1 (start (setup_of part c.tables))

  agrees : (n : ℕ) → AgreesWith (state_after part c n) (passed_after part c n).state (passed_after part c n).contacts
  agrees zero = refl
  agrees (suc n) =
      subst (λ (m : CodeState). AgreesWith m (passed_after part c (suc n)).state (passed_after part c (suc n)).contacts) (sym (next_state n))
      (one_more (state_after part c n) (passed_after part c n).state (passed_after part c n).contacts (agrees n))

pub first_is_the_stop : FirstContactIsTheStop
first_is_the_stop part c n = agrees part c n
