-- Places that may lie beyond 64 bits.
use Rattle.std.specs.Prelude.{ℕ, ℤ, Option, Some, None, if◌then◌else◌}
use Rattle.vcm_num.specs.declared.point.Point.{Point}
use Rattle.vcm_num.specs.Number.{fits_i64}
use Rattle.vcm_spec.specs.Outcome.{fits_place, point_of}

-- the coordinate, if it is a number of 64 bits
abbrev pub fitting : ℤ → Option ℤ
fitting z = if fits_i64 z then Some z else None

-- the point at a place, if its coordinates are
abbrev pub fitting_point : (ℕ → ℤ) → Option Point
fitting_point x = if fits_place x then Some (point_of x) else None
