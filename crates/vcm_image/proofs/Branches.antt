-- Branches that are written one by one.
use Rattle.std.proofs.Common.{◌≡◌, ℕ, ◌+◌, ◌<◌, List, ◌++◌, length, drop, get_or, sym, ap, ◌∙◌, subst, append_assoc}
use Rattle.std.specs.List.{flat_map, AllByRecursion}
use Rattle.std.proofs.lemmas.List.{drop_more}
use Rattle.std.proofs.lemmas.List.Concat.{flat_map-cons}
use Rattle.vcm_code.specs.declared.branch.Branch.{Branch}
use Rattle.vcm_fields.specs.Widths.{FitsBranch}
use Rattle.vcm_fields.specs.Spelling.{branch}

module _ (bs : List Branch) (i : ℕ) (none : Branch) (l : i < length bs) where
  -- one more is written
  pub one_written : (out new : List ℕ) → new ≡ out ++ branch (get_or bs i none) → new ++ flat_map branch (drop (i + 1) bs) ≡ out ++ flat_map branch (drop i bs)
  one_written out new w =
      let rest = flat_map branch (drop (i + 1) bs) in
      ap (λ x. x ++ rest) w ∙ append_assoc out (branch (get_or bs i none)) rest
      ∙ ap (λ x. out ++ x) (sym (ap (flat_map branch) (drop_more bs i none l) ∙ flat_map-cons branch (get_or bs i none) (drop (i + 1) bs)))

  -- and fits
  pub one_fits : FitsBranch (get_or bs i none) → AllByRecursion FitsBranch (drop (i + 1) bs) → AllByRecursion FitsBranch (drop i bs)
  one_fits f h = subst (AllByRecursion FitsBranch) (sym (drop_more bs i none l)) (f, h)
