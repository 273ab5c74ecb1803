-- How far a measured point lies from its nominal place: along its direction, and beside it. Neither is told where the two places belong to different frames.
use Rattle.std.specs.Prelude.{ℕ, ℤ, zero, suc, pos, ◌+◌, ◌*◌, ◌^◌, ◌-ℤ◌, ◌==◌, nat_le, nat_lt, unsigned_abs, Bool, true, false, ◌&&◌, if◌then◌else◌}
use Rattle.std.specs.Prelude.{Option, Some, None, Result, Ok, Err}
use Rattle.std.specs.Ordering.{int_eq}
use Rattle.vcm_num.specs.declared.axis.Axis.{Axis}
use Rattle.vcm_num.specs.declared.axis.Axis.TheVariants.{PlusX, PlusY, PlusZ}
use Rattle.vcm_num.specs.declared.number.Fault.{Fault}
use Rattle.vcm_num.specs.declared.point.Point.{Point}
use Rattle.vcm_num.specs.Axis.{axis_of, is_forward, unit}
use Rattle.vcm_num.specs.Number.{checked}
use Rattle.vcm_num.specs.Point.{point, coordinate}
use Rattle.vcm_spec.specs.declared.feature.Feature.{Feature}
use Rattle.vcm_spec.specs.Frame.{Frame, direction, to_machine}
use Rattle.vcm_spec.specs.Outcome.{Outcome, Gives, Stops, point_at}

-- ---- frames that are the same

-- whether two directions are the same: their unit vectors are
abbrev pub is_same_axis : Axis → Axis → Bool
is_same_axis a b = int_eq (unit a 0) (unit b 0) && int_eq (unit a 1) (unit b 1) && int_eq (unit a 2) (unit b 2)

-- whether two places are
abbrev pub is_same_place : Point → Point → Bool
is_same_place p q =
    int_eq (coordinate p 0) (coordinate q 0) && int_eq (coordinate p 1) (coordinate q 1) && int_eq (coordinate p 2) (coordinate q 2)

-- where the origin of a frame lies on the machine
abbrev pub origin_of : Frame → Outcome Point
origin_of f = point_at (to_machine f (coordinate (point (pos 0) (pos 0) (pos 0))))

-- whether two origins are the same
abbrev pub is_same_origin : Outcome Point → Outcome Point → Bool
is_same_origin (Gives p) (Gives q) = is_same_place p q
is_same_origin (Gives p) (Stops why) = false
is_same_origin (Stops why) o = false

-- whether X, Y and Z of two frames go along the same axes of the machine
abbrev pub is_turned_alike : Frame → Frame → Bool
is_turned_alike f g =
    is_same_axis (direction f.turn PlusX) (direction g.turn PlusX) && is_same_axis (direction f.turn PlusY) (direction g.turn PlusY)
    && is_same_axis (direction f.turn PlusZ) (direction g.turn PlusZ)

-- whether two frames are the same: their origin and their axes
abbrev pub is_same_frame : Frame → Frame → Bool
is_same_frame f g = is_same_origin (origin_of f) (origin_of g) && is_turned_alike f g

-- the declared feature, where it was declared in the current frame
abbrev pub comparable : Option Frame → Frame → Option Feature → Option Feature
comparable None current nominal = None
comparable (Some f) current nominal = if is_same_frame f current then nominal else None

-- ---- along the direction

-- how far an actual place lies from a nominal one along a direction: above 0 where it lies farther
abbrev pub gap : Point → Point → Axis → ℤ
gap nominal actual toward =
    if is_forward toward then coordinate actual (axis_of toward) -ℤ coordinate nominal (axis_of toward)
    else coordinate nominal (axis_of toward) -ℤ coordinate actual (axis_of toward)

-- a length, if it has 64 bits
abbrev pub length_of : Result ℤ Fault → Option ℤ
length_of (Ok z) = Some z
length_of (Err e) = None

-- how far a measured point lies off a declared one along its direction
abbrev pub off_by : Option Feature → Feature → Option ℤ
off_by None actual = None
off_by (Some nominal) actual = length_of (checked (gap nominal.at actual.at actual.toward))

-- the deviation of a measured point, where it can be told: of a feature that was declared in the frame of its measurement
abbrev pub told_deviation : Option Frame → Frame → Option Feature → Feature → Option ℤ
told_deviation declared current nominal actual = off_by (comparable declared current nominal) actual

-- ---- beside it

-- a bit more of a root, if its square isn't above n
abbrev pub with_bit : ℕ → ℕ → ℕ → ℕ
with_bit n r bit = if nat_le ((r + bit) * (r + bit)) n then r + bit else r

-- the root of n, down, from r by so many bits
unfoldable pub root_by : ℕ → ℕ → ℕ → ℕ
root_by zero r n = r
root_by (suc b) r n = root_by b (with_bit n r (2 ^ b)) n

-- the root of n below 2 ^ 128, down: the greatest number whose square isn't above it
unfoldable pub root_down : ℕ → ℕ
root_down n = root_by 64 0 n

-- the two axes beside a direction
abbrev pub first_beside : Axis → ℕ
first_beside toward = if axis_of toward == 0 then 1 else 0

abbrev pub second_beside : Axis → ℕ
second_beside toward = if axis_of toward == 2 then 1 else 2

-- how far two places are from each other along an axis, either way, if that has 64 bits
abbrev pub size_of : Result ℤ Fault → Option ℕ
size_of (Ok z) = Some (unsigned_abs z)
size_of (Err e) = None

abbrev pub apart : Point → Point → ℕ → Option ℕ
apart p q k = size_of (checked (coordinate q k -ℤ coordinate p k))

-- a length that has 64 bits
abbrev pub within_bits : ℕ → Option ℤ
within_bits n = if nat_lt n (2 ^ 63) then Some (pos n) else None

-- how long the way is that goes so far along one axis and so far along another, down, if all three have 64 bits
abbrev pub across : Option ℕ → Option ℕ → Option ℤ
across None b = None
across (Some a) None = None
across (Some a) (Some b) = within_bits (root_down (a * a + b * b))

-- how far a measured point lies beside the line through a declared one along its direction
abbrev pub beside : Option Feature → Feature → Option ℤ
beside None actual = None
beside (Some nominal) actual = across (apart nominal.at actual.at (first_beside actual.toward)) (apart nominal.at actual.at (second_beside actual.toward))
