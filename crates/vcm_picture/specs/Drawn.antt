-- Where points are drawn.
use Rattle.std.specs.Prelude.{ℤ, pos, negsuc}
use Rattle.std.specs.Int.{int_min, int_max}
use Rattle.vcm_num.specs.declared.point.Point.{Point}
use Rattle.vcm_num.specs.Point.{point, coordinate}

-- a coordinate as it is drawn: a kilometre from 0 where it is farther
abbrev pub drawn : ℤ → ℤ
drawn z = int_max (negsuc 999999999) (int_min z (pos 1000000000))

-- where a point is drawn
abbrev pub drawn_at : Point → Point
drawn_at p = point (drawn (coordinate p 0)) (drawn (coordinate p 1)) (drawn (coordinate p 2))
