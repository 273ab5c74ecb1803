-- Steps of an angle, and what is left of it.
use Rattle.std.proofs.Common.{ℤ, pos, negsuc, ◌≤◌, ◌<◌, arith, FitsSigned}
use Rattle.std.specs.Prelude.{unsigned_abs, int_div, int_rem}
use Rattle.std.proofs.lemmas.Int.{ints, rem_below}
use mir.Syntax.{w32}

pub steps_small : (z : ℤ) → FitsSigned w32 z → unsigned_abs (int_div z (pos 7500)) ≤ 286331
steps_small (pos n) f = omega (arith, ints, f)
steps_small (negsuc n) f = omega (arith, ints, f)

small_fits : (z : ℤ) → unsigned_abs z ≤ 286331 → FitsSigned w32 z
small_fits z h = omega (arith, ints, h)

pub steps_fit : (z : ℤ) → FitsSigned w32 z → FitsSigned w32 (int_div z (pos 7500))
steps_fit z f = small_fits (int_div z (pos 7500)) (steps_small z f)

pub degrees_fit : (z : ℤ) → FitsSigned w32 z → FitsSigned w32 (int_div z (pos 1000))
degrees_fit (pos n) f = omega (arith, ints, f)
degrees_fit (negsuc n) f = omega (arith, ints, f)

rest_in : (z : ℤ) → unsigned_abs z < 1000 → FitsSigned w32 z
rest_in z h = omega (arith, ints, h)

pub rest_fits : (z : ℤ) → FitsSigned w32 (int_rem z (pos 1000))
rest_fits z = rest_in (int_rem z (pos 1000)) (rem_below z (pos 1000) (omega arith))
