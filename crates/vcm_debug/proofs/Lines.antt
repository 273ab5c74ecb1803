-- Statements of a source line.
use Rattle.std.proofs.Common.{◌≡◌, ◌≢◌, ℕ, zero, suc, ◌+◌, ◌<◌, ◌==◌, false, cond, List, [], ◌∷◌, length, drop, refl, ap, ◌∙◌, Some, arith, eq-eqb}
use Rattle.std.specs.Prelude.{slice_get}
use Rattle.std.proofs.lemmas.Bool.{ne_eqb}
use Rattle.std.specs.List.{position_from}
use Rattle.vcm_code.specs.Code.{CodeStatement}
use Rattle.vcm_debug.specs.Session.{line_in}

at_line : (xs : List CodeStatement) (line k n : ℕ) → n < length xs
    → position_from (λ s. s.line == line) k (drop n xs) ≡ cond (line_in (slice_get xs n) == line) (Some k) (position_from (λ s. s.line == line) (k + 1) (drop (suc n) xs))
at_line [] line k n l = absurd (omega arith)
at_line (x ∷ xs) line k zero l = refl
at_line (x ∷ xs) line k (suc n) l = at_line xs line k n (omega arith)

-- the statement is of this line
pub found_line : (xs : List CodeStatement) (line k n : ℕ) → n < length xs → line_in (slice_get xs n) ≡ line → position_from (λ s. s.line == line) k (drop n xs) ≡ Some k
found_line xs line k n l e =
    at_line xs line k n l ∙ ap (λ b. cond b (Some k) (position_from (λ s. s.line == line) (k + 1) (drop (suc n) xs))) (eq-eqb _ _ e)

-- it isn't
pub passed_line : (xs : List CodeStatement) (line k n : ℕ) → n < length xs → line_in (slice_get xs n) ≢ line
    → position_from (λ s. s.line == line) k (drop n xs) ≡ position_from (λ s. s.line == line) (k + 1) (drop (n + 1) xs)
passed_line xs line k n l e =
    let m : suc n ≡ n + 1 = omega arith in
    let f : (line_in (slice_get xs n) == line) ≡ false = ne_eqb _ _ e in
    at_line xs line k n l ∙ ap (λ b. cond b (Some k) (position_from (λ s. s.line == line) (k + 1) (drop (suc n) xs))) f
    ∙ ap (λ j. position_from (λ s. s.line == line) (k + 1) (drop j xs)) m
