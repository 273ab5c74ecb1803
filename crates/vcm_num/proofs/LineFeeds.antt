-- Where a byte stands first, as a line feed does.
use Rattle.std.proofs.Common.{◌≡◌, ℕ, Bool, true, false, eqb, List, length, Option, Some, None, refl, arith}
use Rattle.std.specs.List.{position, position_or_len}
use Rattle.std.proofs.lemmas.Bool.{lt-ltb, le-ltb}
use Rattle.memchr.specs.Find.{IsFirstByte, is_byte}
use Rattle.std.proofs.lemmas.List.Sums.{position_or_len_is}

-- the byte ends a line
abbrev pub ends_line : ℕ → Bool
ends_line b = eqb b 10

not_passed : (b : Bool) → (b ≡ true → ⊥) → b ≡ false
not_passed true h = absurd (h refl)
not_passed false h = refl

pub first_byte : (byte : ℕ) (text : List ℕ) (r : Option ℕ) → IsFirstByte (is_byte byte) text r → r ≡ position (λ b. eqb b byte) text
first_byte byte text None nowhere =
    let at : position_or_len (λ b. eqb b byte) text ≡ length text =
    position_or_len_is (λ b. eqb b byte) text (length text) 0 (omega arith) (λ k lt. not_passed _ (nowhere k (omega arith) lt)) (λ lt. absurd (omega arith))
    in
    rw (at, le-ltb (length text) (length text) (omega arith)) refl
first_byte byte text (Some n) found =
    let at : position_or_len (λ b. eqb b byte) text ≡ n =
    position_or_len_is (λ b. eqb b byte) text n 0 (omega (arith, found.0.high)) (λ k lt. not_passed _ (found.0.before k (omega arith) lt)) (λ lt. found.1)
    in
    rw (at, lt-ltb n (length text) found.0.high) refl
