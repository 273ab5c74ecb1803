-- Boxes that hold a slanted cylinder.
use Rattle.std.specs.Prelude.{ℕ, zero, suc, ◌+◌, ℤ, pos, ◌+ℤ◌, ◌-ℤ◌, ◌*ℤ◌, neg_ℤ, int_le, int_lt, unsigned_abs, not, ◌&&◌, if◌then◌else◌}
use Rattle.std.specs.Prelude.{List, [], ◌++◌, Option, Some, None}
use Rattle.std.specs.Int.{int_min, int_max, int_div_euclid}
use Rattle.std.specs.Ordering.{int_eq}
use Rattle.std.specs.Option.{option_to_list}
use Rattle.vcm_num.specs.Point.{point}
use Rattle.vcm_spec.specs.declared.workpiece.Block3.{Block3}
use Rattle.vcm_hardware.specs.declared.interval.Interval.{Interval}
use Rattle.vcm_hardware.specs.declared.angle.Along.{Along}
use Rattle.vcm_hardware.specs.declared.angle.Along.TheVariants.{X, Y, Z}
use Rattle.vcm_hardware.specs.declared.angle.Direction.{Direction}
use Rattle.vcm_hardware.specs.declared.angle.Turning.{Turning}
use Rattle.vcm_hardware.specs.declared.description.Place.{Place}
use Rattle.vcm_hardware.specs.declared.description.Cylinder.{Cylinder}
use Rattle.vcm_hardware.specs.declared.cylinder.Seen.{Seen}
use Rattle.vcm_hardware.specs.declared.cylinder.Range.{Range}
use Rattle.vcm_hardware.specs.declared.cylinder.Leaning.{Leaning}
use Rattle.vcm_hardware.specs.declared.cylinder.Side.{Side}
use Rattle.vcm_hardware.specs.declared.cylinder.Slabs.{Slabs}
use Rattle.vcm_hardware.specs.Intervals.{floor_one, ceil_one, half_up, root_up, middle, wide, size, least_size, greatest_size, less}
use Rattle.vcm_hardware.specs.Turned.{towards, coordinate_on, column, turned}

-- the axis that a part runs along before the head is turned
abbrev pub axis_between : Place → Place → Along
axis_between p q = if not (int_eq p.x q.x) then X else if not (int_eq p.y q.y) then Y else Z

-- a part seen from the tip
abbrev pub seen_from : Turning → Cylinder → Place → Seen
seen_from t part tip = record {
  direction = column t (axis_between part.from part.to);
  from = turned t part.from tip;
  to = turned t part.to tip;
  diameter = part.diameter;
  step = part.step;
}

-- the axis along which a direction runs farthest, the first one of equals
abbrev pub main_axis : Direction → Along
main_axis d =
    if int_le (size (middle d.y)) (size (middle d.x)) && int_le (size (middle d.z)) (size (middle d.x)) then X
    else if int_le (size (middle d.z)) (size (middle d.y)) then Y
    else Z

-- half the diameter times the root, up
abbrev pub half_width : ℤ → ℤ → ℤ
half_width diameter square = half_up (diameter *ℤ root_up square)

-- from the least of two lower ends to the greatest of two upper ones, both moved out
abbrev pub hull : Interval → Interval → ℤ → Interval
hull p q out = record { low = int_min p.low q.low -ℤ out; high = int_max p.high q.high +ℤ out }

-- the square of 1
abbrev pub one : ℤ
one = pos 100000000000000

-- the range of a cylinder on an axis
abbrev pub range_on : Seen → Along → Interval
range_on s i =
    let l = least_size (wide (towards s.direction i)) in
    hull (coordinate_on s.from i) (coordinate_on s.to i) (half_width s.diameter (one -ℤ l *ℤ l))

-- in whole micrometres, outward
abbrev pub outward : Interval → Range
outward x = record { low = floor_one x.low; high = ceil_one x.high }

-- how far a cylinder stands out of its axis where x_i - slope x_k is looked at, of axes i and k
abbrev pub slope_width : Seen → Along → Along → ℤ → ℤ
slope_width s k i slope =
    let least = least_size (less slope (wide (towards s.direction i)) (wide (towards s.direction k))) in
    half_width s.diameter (one +ℤ slope *ℤ slope -ℤ least *ℤ least)

-- between which planes of a slope it lies: how far x_i - slope x_k goes
abbrev pub planes_of : Seen → Along → Along → ℤ → Leaning
planes_of s k i slope =
    let h = hull (less slope (coordinate_on s.from i) (coordinate_on s.from k)) (less slope (coordinate_on s.to i) (coordinate_on s.to k)) (slope_width s k i slope) in
    record { slope = slope; low = h.low; high = h.high }

-- one number over another that is above 0, in ten-millionths, to the nearest, halves up
abbrev pub nearest : ℤ → ℤ → ℤ
nearest over under = int_div_euclid (pos 20000000 *ℤ over +ℤ under) (pos 2 *ℤ under)

-- the same over any number; none over 0
abbrev pub quotient : ℤ → ℤ → Option ℤ
quotient over under =
    if int_eq under (pos 0) then None
    else if int_lt under (pos 0) then Some (nearest (neg_ℤ over) (neg_ℤ under))
    else Some (nearest over under)

-- the planes of a slope, if there is one, and those of the one back
abbrev pub planes : Seen → Along → Along → Option ℤ → Option Leaning
planes s k i None = None
planes s k i (Some slope) = Some (planes_of s k i slope)

abbrev pub planes_back : Seen → Along → Along → Option ℤ → Option Leaning
planes_back s k i None = None
planes_back s k i (Some slope) = Some (planes_of s k i (neg_ℤ slope))

-- how far a cylinder reaches on an axis: its range, and the planes along it and square to it
abbrev pub side_on : Seen → Along → Along → Side
side_on s k i =
    let own = middle (towards s.direction i) in
    let other = middle (towards s.direction k) in
    record { range = outward (range_on s i); first = planes s k i (quotient own other); second = planes_back s k i (quotient other own) }

-- the greatest absolute value on the two other axes
abbrev pub aside : Direction → Along → ℤ
aside d X = int_max (greatest_size (wide d.y)) (greatest_size (wide d.z))
aside d Y = int_max (greatest_size (wide d.x)) (greatest_size (wide d.z))
aside d Z = int_max (greatest_size (wide d.x)) (greatest_size (wide d.y))

-- one number over another, up, and at least 1
abbrev pub over_up : ℤ → ℤ → ℕ
over_up over under = unsigned_abs (int_max (neg_ℤ (int_div_euclid (neg_ℤ over) under)) (pos 1))

-- into how many slabs it is cut: the range times what it runs aside, over the step times what it surely runs on, up, and at least 1
abbrev pub slab_count : Seen → Along → Range → ℕ
slab_count s k range =
    over_up ((range.high -ℤ range.low) *ℤ aside s.direction k) (int_max (s.step *ℤ least_size (wide (towards s.direction k))) (pos 1))

-- a cylinder cut along its main axis
abbrev pub slabs_of : Seen → Slabs
slabs_of s =
    let k = main_axis s.direction in
    let range = outward (range_on s k) in
    record { main = k; range = range; count = slab_count s k range; x = side_on s k X; y = side_on s k Y; z = side_on s k Z }

-- where slab s of n begins
abbrev pub cut_at : Range → ℕ → ℕ → ℤ
cut_at range n s = range.low +ℤ int_div_euclid (pos s *ℤ (range.high -ℤ range.low)) (pos n)

-- what the planes of a slope leave between z and z', outward
abbrev pub leans : Leaning → Range → Interval
leans p z = record {
  low = floor_one (p.low +ℤ int_min (p.slope *ℤ z.low) (p.slope *ℤ z.high));
  high = ceil_one (p.high +ℤ int_max (p.slope *ℤ z.low) (p.slope *ℤ z.high));
}

-- what is in both
abbrev pub both : Interval → Interval → Interval
both a b = record { low = int_max a.low b.low; high = int_min a.high b.high }

abbrev pub between : Interval → Option Leaning → Range → Interval
between range None z = range
between range (Some p) z = both range (leans p z)

-- a range, if there is room in it
abbrev pub with_room : Interval → Option Range
with_room x = if int_lt x.high x.low then None else Some (record { low = x.low; high = x.high })

-- how far a cylinder reaches on an axis between z and z'
abbrev pub reach : Side → Range → Option Range
reach side z = with_room (between (between (record { low = side.range.low; high = side.range.high }) side.first z) side.second z)

-- the box of three ranges, if there are three
abbrev pub block_of : Option Range → Option Range → Option Range → Option Block3
block_of (Some x) (Some y) (Some z) = Some (record { low = point x.low y.low z.low; high = point x.high y.high z.high })
block_of _ _ _ = None

abbrev pub block_along : Along → Range → Slabs → Option Block3
block_along X z c = block_of (Some z) (reach c.y z) (reach c.z z)
block_along Y z c = block_of (reach c.x z) (Some z) (reach c.z z)
block_along Z z c = block_of (reach c.x z) (reach c.y z) (Some z)

-- the box of a slab, if there is room in it
abbrev pub slab_of : Slabs → ℕ → Option Block3
slab_of c s = block_along c.main (record { low = cut_at c.range c.count s; high = cut_at c.range c.count (s + 1) }) c

-- the boxes of so many slabs from slab s on
unfoldable pub slabs_behind : Slabs → ℕ → ℕ → List Block3
slabs_behind c s zero = []
slabs_behind c s (suc left) = option_to_list (slab_of c s) ++ slabs_behind c (s + 1) left

-- the boxes that hold a cylinder
abbrev pub cylinder_boxes : Slabs → List Block3
cylinder_boxes c = slabs_behind c 0 c.count
