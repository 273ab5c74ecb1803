-- Lines that are written one by one.
use Rattle.std.proofs.Common.{◌≡◌, ℕ, zero, suc, ◌+◌, ◌<◌, List, [], ◌∷◌, ◌++◌, length, take, drop, refl, ap, ◌∙◌, append_assoc, get_or, arith}
use Rattle.std.specs.Prelude.{codes}
use Rattle.vcm_report.specs.Output.{output_lines}

-- the lines before the i-th, that one, and those after it
pub lines_cut : (ls : List (List ℕ)) (i : ℕ) (d : List ℕ) → i < length ls
    → output_lines (take i ls) ++ ((get_or ls i d ++ codes "\n") ++ output_lines (drop (i + 1) ls)) ≡ output_lines ls
lines_cut [] i d l = absurd (omega arith)
lines_cut (x ∷ ls) zero d l = refl
lines_cut (x ∷ ls) (suc i) d l =
    append_assoc (x ++ codes "\n") (output_lines (take i ls)) _
    ∙ ap (λ n. (x ++ codes "\n") ++ (output_lines (take i ls) ++ ((get_or ls i d ++ codes "\n") ++ output_lines (drop n (x ∷ ls))))) (let e : suc i + 1 ≡ suc (i + 1) = omega arith in e)
    ∙ ap (λ l. (x ++ codes "\n") ++ l) (lines_cut ls i d (omega arith))
