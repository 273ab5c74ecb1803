-- Sums of three products fit 128 bits.
use Rattle.std.proofs.Common.{◌≡◌, ℕ, ℤ, ◌+◌, ◌≤◌, ◌+ℤ◌, arith, to_z, of_z, FitsSigned}
use Rattle.std.specs.Prelude.{unsigned_abs}
use Rattle.std.proofs.lemmas.Int.{ints, to_z-of_z, fits_signed_from_abs}
use mir.Syntax.{w128}

abs_sum : (a b : ℤ) (m n : ℕ) → unsigned_abs a ≤ m → unsigned_abs b ≤ n → unsigned_abs (a +ℤ b) ≤ m + n
abs_sum a b m n p q = omega (arith, ints)

-- of a bound of a product
abbrev pub IsSmall : ℤ → Type 0
IsSmall a = unsigned_abs a ≤ 19807040628566084398385987584

pub two_fit : (a b : ℤ) → IsSmall a → IsSmall b → FitsSigned w128 (a +ℤ b)
two_fit a b p q = fits_signed_from_abs w128 (a +ℤ b) (omega (arith, abs_sum a b 19807040628566084398385987584 19807040628566084398385987584 p q))

pub three_fit : (a b c : ℤ) → IsSmall a → IsSmall b → IsSmall c → FitsSigned w128 (a +ℤ b +ℤ c)
three_fit a b c p q r =
    fits_signed_from_abs w128 (a +ℤ b +ℤ c) (omega (arith, abs_sum (a +ℤ b) c 39614081257132168796771975168 19807040628566084398385987584 (abs_sum a b 19807040628566084398385987584 19807040628566084398385987584 p q) r))

one_fits : (a : ℤ) → IsSmall a → FitsSigned w128 a
one_fits a p = fits_signed_from_abs w128 a (omega (arith, p))

pub summed : (a b c : ℤ) → IsSmall a → IsSmall b → IsSmall c →
    to_z w128 (of_z w128 (to_z w128 (of_z w128 a) +ℤ to_z w128 (of_z w128 b))) +ℤ to_z w128 (of_z w128 c) ≡ a +ℤ b +ℤ c
summed a b c p q r = rw (to_z-of_z w128 a (one_fits a p), to_z-of_z w128 b (one_fits b q), to_z-of_z w128 c (one_fits c r), to_z-of_z w128 (a +ℤ b) (two_fit a b p q))
