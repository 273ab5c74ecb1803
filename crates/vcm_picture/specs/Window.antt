-- What a picture shows: the window, and the unit.
use Rattle.std.specs.Prelude.{ℤ, pos, ◌+ℤ◌, ◌-ℤ◌, ◌*ℤ◌, int_le, if◌then◌else◌}
use Rattle.std.specs.Int.{int_max, int_div_euclid}
use Rattle.vcm_num.specs.Point.{point}
use Rattle.vcm_picture.specs.Sights.{Span}
use Rattle.vcm_picture.specs.Sights.{Window}

-- how far a span extends
abbrev pub size : Span → ℤ
size s = s.high -ℤ s.low

-- the greatest extent, a millimetre at least
abbrev pub most_of : Span → Span → Span → ℤ
most_of x y z = int_max (int_max (size x) (size y)) (int_max (size z) (pos 1000))

-- the extent of an axis, at least a quarter of the greatest
abbrev pub grown : Span → ℤ → ℤ
grown s most = int_max (size s) (int_div_euclid most (pos 4))

-- where the window begins on an axis
abbrev pub low_of : Span → ℤ → ℤ
low_of s most = s.low -ℤ int_div_euclid (grown s most -ℤ size s) (pos 2) -ℤ int_div_euclid most (pos 16)

-- how far it extends
abbrev pub full_of : Span → ℤ → ℤ
full_of s most = grown s most +ℤ pos 2 *ℤ int_div_euclid most (pos 16)

-- the longer of the sums of extents that stand side by side and one above the other
abbrev pub longest : ℤ → ℤ → ℤ → ℤ
longest x y z = int_max (x +ℤ y) (y +ℤ z)

-- the micrometres of a unit of the picture: so many that no sum of extents is above 12,000,000 units
abbrev pub grain_of : ℤ → ℤ
grain_of n =
    if int_le n (pos 12000000) then pos 1
    else (if int_le n (pos 120000000) then pos 10 else (if int_le n (pos 1200000000) then pos 100 else pos 1000))

-- the unit of marks and texts: a thousandth of the longest sum of extents
abbrev pub unit_of : ℤ → ℤ → ℤ → ℤ → ℤ
unit_of x y z grain =
    int_max (int_div_euclid (longest (int_div_euclid x grain) (int_div_euclid y grain) (int_div_euclid z grain)) (pos 1000)) (pos 1)

-- the window of these extents
abbrev pub window_with : Span → Span → Span → ℤ → ℤ → Window
window_with x y z most grain = record {
  low = point (low_of x most) (low_of y most) (low_of z most);
  full = point (full_of x most) (full_of y most) (full_of z most);
  grain = grain;
  unit = unit_of (full_of x most) (full_of y most) (full_of z most) grain;
}

-- the window round these spans
abbrev pub window_of : Span → Span → Span → Window
window_of x y z =
    let most = most_of x y z in
    window_with x y z most (grain_of (longest (full_of x most) (full_of y most) (full_of z most)))

-- a window with another unit of marks and texts
abbrev pub with_unit : Window → ℤ → Window
with_unit w unit = record (w) { unit = unit }
