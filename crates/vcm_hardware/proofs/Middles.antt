-- The middle of an interval fits.
use Rattle.std.proofs.Common.{ℤ, pos, ◌+◌, ◌*◌, ◌≤◌, ◌+ℤ◌, arith, FitsSigned}
use Rattle.std.specs.Prelude.{unsigned_abs}
use Rattle.std.proofs.lemmas.Int.{ints, fits_signed_from_abs}
use mir.Syntax.{w64, w128}

sum_small : (a b : ℤ) → unsigned_abs a ≤ 27670116110564327424 → unsigned_abs b ≤ 27670116110564327424 → unsigned_abs (a +ℤ b) ≤ 55340232221128654848
sum_small a b h k = omega (arith, ints)

more_small : (a b : ℤ) → unsigned_abs a ≤ 27670116110564327424 → unsigned_abs b ≤ 27670116110564327424 → unsigned_abs (a +ℤ b +ℤ pos 10000000) ≤ 55340232221138654848
more_small a b h k = omega (arith, ints)

pub sum_fits : (a b : ℤ) → unsigned_abs a ≤ 27670116110564327424 → unsigned_abs b ≤ 27670116110564327424 → FitsSigned w128 (a +ℤ b)
sum_fits a b h k = fits_signed_from_abs w128 (a +ℤ b) (omega (arith, sum_small a b h k))

pub more_fits : (a b : ℤ) → unsigned_abs a ≤ 27670116110564327424 → unsigned_abs b ≤ 27670116110564327424 → FitsSigned w128 (a +ℤ b +ℤ pos 10000000)
more_fits a b h k = fits_signed_from_abs w128 (a +ℤ b +ℤ pos 10000000) (omega (arith, more_small a b h k))

pub half_fits : (a b q : ℤ) → unsigned_abs a ≤ 27670116110564327424 → unsigned_abs b ≤ 27670116110564327424
    → unsigned_abs q * 20000000 ≤ unsigned_abs (a +ℤ b +ℤ pos 10000000) + 19999999 → FitsSigned w64 q
half_fits a b q h k s = fits_signed_from_abs w64 q (omega (arith, more_small a b h k, s))
