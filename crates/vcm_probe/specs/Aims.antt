-- The aims of a measurement.
use Rattle.std.specs.Prelude.{◌≡◌, ℕ, ℤ, true}
use Rattle.vcm_num.specs.declared.axis.Axis.{Axis}
use Rattle.vcm_num.specs.declared.point.Point.{Point}
use Rattle.vcm_spec.specs.World.{Settings}
use Rattle.vcm_spec.specs.Touch.{approach_of, end_of}
use Rattle.vcm_spec.specs.Outcome.{fits_place, point_of}

-- these points are the approach point and the end of the search, where centre is that of the nominal place
pub record AreAimed (s : Settings) (centre : ℕ → ℤ) (d : Axis) (approach end : Point) : Type 0 where
  pub up : fits_place (approach_of s centre d) ≡ true
  pub down : fits_place (end_of s centre d) ≡ true
  pub approach_is : approach ≡ point_of (approach_of s centre d)
  pub end_is : end ≡ point_of (end_of s centre d)
