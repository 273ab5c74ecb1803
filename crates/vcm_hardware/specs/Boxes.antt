-- The boxes of a probe.
use Rattle.std.specs.Prelude.{ℕ, ◌+◌, ◌-◌, ℤ, pos, ◌+ℤ◌, ◌-ℤ◌, int_div, List, [], ◌∷◌, length, Option, Some, None, slice_get}
use Rattle.std.specs.Int.{int_div_euclid}
use Rattle.vcm_num.specs.declared.point.Point.{Point}
use Rattle.vcm_num.specs.Point.{point}
use Rattle.vcm_spec.specs.declared.workpiece.Block3.{Block3}
use Rattle.vcm_hardware.specs.declared.angle.Spot.{Spot}
use Rattle.vcm_hardware.specs.declared.angle.Turning.{Turning}
use Rattle.vcm_hardware.specs.declared.description.Place.{Place}
use Rattle.vcm_hardware.specs.declared.description.StillBox.{StillBox}
use Rattle.vcm_hardware.specs.declared.description.Cylinder.{Cylinder}
use Rattle.vcm_hardware.specs.declared.description.Ball.{Ball}
use Rattle.vcm_hardware.specs.declared.description.Choice.{Choice}
use Rattle.vcm_hardware.specs.Described.{Hanging}
use Rattle.vcm_hardware.specs.Intervals.{floor_one, ceil_one, half_up}
use Rattle.vcm_hardware.specs.Turned.{turning_by, turned}
use Rattle.vcm_hardware.specs.Slabs.{seen_from, slabs_of, cylinder_boxes}

-- the turning centre
abbrev pub origin : Place
origin = record { x = pos 0; y = pos 0; z = pos 0 }

-- the head turned as a probe has it: steps of 7.5 degrees
abbrev pub turning_of : ℤ → Choice → Turning
turning_of turn choice = turning_by (int_div choice.a (pos 7500)) (int_div choice.b (pos 7500) +ℤ int_div turn (pos 7500))

-- the place of a probe's tip
abbrev pub place_of : Option Ball → Place
place_of None = origin
place_of (Some ball) = ball.at

abbrev pub tip_of : List Ball → Choice → Place
tip_of balls choice = place_of (slice_get balls choice.tip)

-- the boxes of a part
abbrev pub part_boxes : Turning → Place → Cylinder → List Block3
part_boxes t tip part = cylinder_boxes (slabs_of (seen_from t part tip))

-- how many boxes the parts have
abbrev pub parts_count : Turning → Place → List Cylinder → ℕ
parts_count t tip [] = 0
parts_count t tip (part ∷ parts) = length (part_boxes t tip part) + parts_count t tip parts

-- how many boxes a probe has: those of the parts, one for each other tip, and those that stand still
abbrev pub box_count : Hanging → Choice → ℕ
box_count h choice = parts_count (turning_of h.turn choice) (tip_of h.balls choice) h.parts + (length h.balls - 1) + length h.heads

-- the cube that holds a ball
abbrev pub ball_box : Turning → Place → Ball → Block3
ball_box t tip ball =
    let at = turned t ball.at tip in
    let r = half_up ball.diameter in
    record {
      low = point (floor_one at.x.low -ℤ r) (floor_one at.y.low -ℤ r) (floor_one at.z.low -ℤ r);
      high = point (ceil_one at.x.high +ℤ r) (ceil_one at.y.high +ℤ r) (ceil_one at.z.high +ℤ r);
    }

-- the turning centre seen from the tip
abbrev pub centre : Turning → Place → Spot
centre t tip = turned t origin tip

-- a box that stands still, seen from the tip
abbrev pub head_box : Spot → StillBox → Block3
head_box c still = record {
  low = point (floor_one c.x.low +ℤ still.low.x) (floor_one c.y.low +ℤ still.low.y) (floor_one c.z.low +ℤ still.low.z);
  high = point (ceil_one c.x.high +ℤ still.high.x) (ceil_one c.y.high +ℤ still.high.y) (ceil_one c.z.high +ℤ still.high.z);
}

-- the middle of an interval, to the nearest whole number
abbrev pub rounded : ℤ → ℤ → ℤ
rounded low high = int_div_euclid (low +ℤ high +ℤ pos 10000000) (pos 20000000)

-- the turning centre to the nearest micrometre
abbrev pub pivot : Spot → Point
pivot c = point (rounded c.x.low c.x.high) (rounded c.y.low c.y.high) (rounded c.z.low c.z.high)
