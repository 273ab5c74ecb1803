-- The lines of a job's input, from its front.
use Rattle.std.proofs.Common.{◌≡◌, ℕ, ◌==◌, Bool, true, false, List, [], ◌∷◌, refl, ap, ◌∙◌}
use Rattle.std.specs.List.{onto_first, flat_map}
use Rattle.vcm_num.specs.Lines.{whole_lines}
use Rattle.vcm_num.proofs.WholeLines.{whole_nil, whole_feed, whole_other}

-- the lines are all of the input
onto_all : (b : ℕ) (ls : List (List ℕ)) → flat_map (λ k. k) (onto_first b ls) ≡ b ∷ flat_map (λ k. k) ls
onto_all b [] = refl
onto_all b (l ∷ ls) = refl

pub lines_all : (text : List ℕ) → flat_map (λ k. k) (whole_lines text) ≡ text
lines_all [] = ap (flat_map (λ k. k)) whole_nil
lines_all (b ∷ bs) = by (b == 10) refl (lines_all bs)
  where
    by : (t : Bool) → (b == 10) ≡ t → flat_map (λ k. k) (whole_lines bs) ≡ bs → flat_map (λ k. k) (whole_lines (b ∷ bs)) ≡ b ∷ bs
    by true e ih = ap (flat_map (λ k. k)) (whole_feed b bs e) ∙ ap (λ l. b ∷ l) ih
    by false e ih = ap (flat_map (λ k. k)) (whole_other b bs e) ∙ onto_all b (whole_lines bs) ∙ ap (λ l. b ∷ l) ih
