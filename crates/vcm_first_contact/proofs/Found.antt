-- What is found behind each step of a run, and at its end.
use Rattle.std.proofs.Common.{◌≡◌, ℕ, true, false, List, [], ◌∷◌, ◌++◌, Option, Some, None, refl, sym, ap, ◌∙◌, subst}
use Rattle.std.specs.Prelude.{is_some}
use Rattle.std.proofs.lemmas.List.{flat_map_more}
use Rattle.vcm_spec.specs.Setup.{setup_of}
use Rattle.vcm_spec.specs.Workpiece.{Workpiece}
use Rattle.vcm_boxes.specs.declared.boxes.ProbeBox.{ProbeBox}
use Rattle.vcm_code.specs.declared.code.Code.{Code}
use Rattle.vcm_code.specs.CodeTable.{code_steps}
use Rattle.vcm_machine.specs.declared.ran.End.TheVariants as ends
use Rattle.vcm_machine.specs.declared.ran.Ran.{Ran}
use Rattle.vcm_machine.specs.Running.{Running, started, later, RunEnded, HasRun}
use Rattle.vcm_steps.specs.Passages.{Passage, passages, state_after}
use Rattle.vcm_steps.proofs.PassageLemmas.{passages_stopped}
use Rattle.vcm_way.specs.Gone.{placed_ways}
use Rattle.vcm_first_contact.specs.declared.first.FirstContact.{FirstContact}
use Rattle.vcm_first_contact.specs.First.{or_else, first_in, first_contact}
use Rattle.vcm_first_contact.specs.Telling.{IsHaltedAfter}
use Rattle.vcm_first_contact.specs.inner.Standing.{ways_along}
use Rattle.vcm_first_contact.proofs.Firsts.{or_both, first_both}

-- what was found stays
pub kept : (to : Option FirstContact) → is_some to ≡ true → (next : Option FirstContact) → to ≡ or_else to next
kept None e next = absurd (let no : false ≡ true = e in cc)
kept (Some f) e next = refl

pub taken : (to : Option FirstContact) → is_some to ≡ false → (next : Option FirstContact) → next ≡ or_else to next
taken None e next = refl
taken (Some f) e next = absurd (let no : true ≡ false = e in cc)

module _ (part : Workpiece) (boxes : List ProbeBox) where
  -- behind one step more
  pub see_more : (from to : Option FirstContact) (ps : List Passage) (p : Passage) (new : Option FirstContact) → to ≡ or_else from (first_in part.blocks boxes (ways_along part ps))
      → new ≡ or_else to (first_in part.blocks boxes (placed_ways part p)) → new ≡ or_else from (first_in part.blocks boxes (ways_along part (ps ++ p ∷ [])))
  see_more from to ps p new has is =
      is ∙ ap (λ o. or_else o (first_in part.blocks boxes (placed_ways part p))) has
      ∙ or_both from (first_in part.blocks boxes (ways_along part ps)) (first_in part.blocks boxes (placed_ways part p))
      ∙ ap (or_else from) (sym (first_both part.blocks boxes (ways_along part ps) (placed_ways part p)))
      ∙ ap (λ ws. or_else from (first_in part.blocks boxes ws)) (flat_map_more (placed_ways part) [] ps p)

  -- at the end of a run
  module _ (c : Code) (n : ℕ) (first m : Running) (ran : Ran) (is : first ≡ started part c) (run : HasRun n first m ran) where
    ended : RunEnded n (started part c) m ran.done ran.end
    ended = subst (λ o. RunEnded n o m ran.done ran.end) is run.ended

    state : m.state ≡ state_after part c ran.done
    state = ap (λ r. r.state) run.new_is ∙ ap (λ o. code_steps (setup_of o.part o.code.tables) o.code.statements ran.done o.state) is

    there : (f : Option FirstContact) → f ≡ first_in part.blocks boxes (ways_along part (passages first.part c ran.done)) → f ≡ first_in part.blocks boxes (ways_along part (passages part c ran.done))
    there f h = h ∙ ap (λ o. first_in part.blocks boxes (ways_along part (passages o.part c ran.done))) is

    pub counted : (f : Option FirstContact) → f ≡ first_in part.blocks boxes (ways_along part (passages first.part c ran.done)) → ran.end ≡ ends.Count → f ≡ first_contact part boxes c n
    counted f h e =
        let r : RunEnded n (started part c) m ran.done ends.Count = subst (λ x. RunEnded n (started part c) m ran.done x) e ended in
        there f h ∙ ap (λ k. first_in part.blocks boxes (ways_along part (passages part c k))) r.0

    pub stopped : (f : Option FirstContact) → f ≡ first_in part.blocks boxes (ways_along part (passages first.part c ran.done)) → ran.end ≡ ends.Stopped → f ≡ first_contact part boxes c n
    stopped f h e =
        let r : RunEnded n (started part c) m ran.done ends.Stopped = subst (λ x. RunEnded n (started part c) m ran.done x) e ended in
        let here : (state_after part c ran.done).world.stop ≡ Some r.1.0 = ap (λ x. x.world.stop) (sym state) ∙ r.1.1 in
        there f h ∙ ap (λ ps. first_in part.blocks boxes (ways_along part ps)) (sym (passages_stopped part c n ran.done r.1.0 r.0 here))

    pub halted : ran.end ≡ ends.NoMemory → IsHaltedAfter part c n ran.done
    halted e =
        subst (λ o. RunEnded n (started part c) (later ran.done o) ran.done ends.NoMemory) is
        (subst (λ r. RunEnded n (started part c) r ran.done ends.NoMemory) run.new_is (subst (λ x. RunEnded n (started part c) m ran.done x) e ended))
