-- Coordinates that are near 0, as the code reads them.
use Rattle.std.proofs.Common.{◌≡◌, ℤ, to_z, of_z, w64, arith, FitsSigned}
use Rattle.std.proofs.lemmas.Int.{ints, to_z-of_z}
use Rattle.vcm_num.specs.Point.{IsNear}

pub near_fits : (z : ℤ) → IsNear z → FitsSigned w64 z
near_fits z h = omega (arith, ints)

pub near_read : (z : ℤ) → IsNear z → to_z w64 (of_z w64 z) ≡ z
near_read z h = to_z-of_z w64 z (near_fits z h)

pub near_again : (z : ℤ) → IsNear z → IsNear (to_z w64 (of_z w64 z))
near_again z h = rw (near_read z h) h
