-- What is known behind steps.
use Rattle.std.proofs.Common.{◌≡◌, ℕ, List, [], ◌∷◌, ◌++◌, refl, sym, ap, ◌∙◌}
use Rattle.vcm_spec.specs.Workpiece.{Workpiece}
use Rattle.vcm_code.specs.declared.code.Code.{Code}
use Rattle.vcm_steps.specs.Passages.{Passage, passages}
use Rattle.vcm_untried.specs.declared.elsewhere.Standing.{Standing}
use Rattle.vcm_untried.specs.Elsewhere.{at_start, standing_one, standing_behind, standing_of}

behind_more : (s : Standing) (ps : List Passage) (p : Passage) → standing_behind s (ps ++ p ∷ []) ≡ standing_one (standing_behind s ps) p
behind_more s [] p = refl
behind_more s (q ∷ ps) p = behind_more (standing_one s q) ps p

-- one step more
pub one_more : (from old new : Standing) (ps : List Passage) (p : Passage) → old ≡ standing_behind from ps → new ≡ standing_one old p → new ≡ standing_behind from (ps ++ p ∷ [])
one_more from old new ps p has is = is ∙ ap (λ s. standing_one s p) has ∙ sym (behind_more from ps p)

-- a run of so many steps, all of which were followed
pub all_stood : (part : Workpiece) (c : Code) (n done : ℕ) (to : Standing) → passages part c done ≡ passages part c n → to ≡ standing_behind at_start (passages part c done)
    → to ≡ standing_of part c n
all_stood part c n done to whole is = is ∙ ap (standing_behind at_start) whole
