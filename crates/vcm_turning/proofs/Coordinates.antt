-- One coordinate of the place of a tip behind a turn.
use Rattle.std.proofs.Common.{◌≡◌, ℤ, ◌+ℤ◌, ◌-ℤ◌, to_z, of_z, w64, arith, FitsSigned}
use Rattle.std.proofs.lemmas.Int.{ints, to_z-of_z}
use Rattle.vcm_num.specs.Point.{IsNear}
use Rattle.vcm_num.proofs.PointLemmas.{near_read}

module _ (x y z : ℤ) (nx : IsNear x) (ny : IsNear y) (nz : IsNear z) where
  pub sum_fits : FitsSigned w64 (to_z w64 (of_z w64 x) +ℤ to_z w64 (of_z w64 y))
  sum_fits = rw (near_read x nx, near_read y ny) (omega (arith, ints))

  plain_sum_fits : FitsSigned w64 (x +ℤ y)
  plain_sum_fits = omega (arith, ints)

  plain_fits : FitsSigned w64 ((x +ℤ y) -ℤ z)
  plain_fits = omega (arith, ints)

  pub turned_fits : FitsSigned w64 (to_z w64 (of_z w64 (to_z w64 (of_z w64 x) +ℤ to_z w64 (of_z w64 y))) -ℤ to_z w64 (of_z w64 z))
  turned_fits = rw (near_read x nx, near_read y ny, near_read z nz, to_z-of_z w64 (x +ℤ y) plain_sum_fits) plain_fits

  pub turned_is : to_z w64 (of_z w64 (to_z w64 (of_z w64 (to_z w64 (of_z w64 x) +ℤ to_z w64 (of_z w64 y))) -ℤ to_z w64 (of_z w64 z))) ≡ ((x +ℤ y) -ℤ z)
  turned_is =
      rw (near_read x nx, near_read y ny, near_read z nz, to_z-of_z w64 (x +ℤ y) plain_sum_fits) (to_z-of_z w64 ((x +ℤ y) -ℤ z) plain_fits)
