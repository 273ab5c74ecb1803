-- Boxes that hold all that turns, in each pose and between.
use Rattle.std.specs.Prelude.{ℕ, zero, suc, ◌+◌, ℤ, pos, ◌+ℤ◌, ◌-ℤ◌, ◌*ℤ◌, neg_ℤ, int_lt, if◌then◌else◌, List, [], ◌∷◌}
use Rattle.std.specs.Int.{int_min, int_max, int_div_euclid}
use Rattle.vcm_num.specs.Point.{point}
use Rattle.vcm_spec.specs.declared.workpiece.Block3.{Block3}
use Rattle.vcm_hardware.specs.declared.angle.Along.{Along}
use Rattle.vcm_hardware.specs.declared.angle.Along.TheVariants.{X, Y, Z}
use Rattle.vcm_hardware.specs.declared.description.Cylinder.{Cylinder}
use Rattle.vcm_hardware.specs.declared.description.Ball.{Ball}
use Rattle.vcm_hardware.specs.declared.swing.Reach.{Reach}
use Rattle.vcm_hardware.specs.declared.swing.Swing.{Swing}
use Rattle.vcm_hardware.specs.Intervals.{ceil_one, half_up, root_up, size}
use Rattle.vcm_hardware.specs.Turned.{cosine}
use Rattle.vcm_hardware.specs.Slabs.{axis_between}

-- the diagonal between two sides, up
abbrev pub diagonal : ℤ → ℤ → ℤ
diagonal a b = root_up (a *ℤ a +ℤ b *ℤ b)

-- the greater of two absolute values
abbrev pub farther : ℤ → ℤ → ℤ
farther a b = int_max (size a) (size b)

-- how far a cylinder of this radius reaches from the turning centre, from the z axis, up and down: x, y and z are its farthest on the axes
abbrev pub reach_along : Along → ℤ → ℤ → ℤ → ℤ → ℤ → ℤ → Reach
reach_along X r x y z top bottom = record { far = diagonal x (diagonal y z +ℤ r); wide = diagonal x (y +ℤ r); high = top +ℤ r; low = bottom -ℤ r }
reach_along Y r x y z top bottom = record { far = diagonal y (diagonal x z +ℤ r); wide = diagonal y (x +ℤ r); high = top +ℤ r; low = bottom -ℤ r }
reach_along Z r x y z top bottom = record { far = diagonal z (diagonal x y +ℤ r); wide = diagonal x y +ℤ r; high = top; low = bottom }

abbrev pub cylinder_reach : Cylinder → Reach
cylinder_reach c =
    reach_along (axis_between c.from c.to) (half_up c.diameter) (farther c.from.x c.to.x) (farther c.from.y c.to.y) (farther c.from.z c.to.z)
    (int_max c.from.z c.to.z) (int_min c.from.z c.to.z)

-- how far a ball reaches
abbrev pub ball_reach : Ball → Reach
ball_reach b = record {
  far = root_up (b.at.x *ℤ b.at.x +ℤ b.at.y *ℤ b.at.y +ℤ b.at.z *ℤ b.at.z) +ℤ half_up b.diameter;
  wide = diagonal b.at.x b.at.y +ℤ half_up b.diameter;
  high = b.at.z +ℤ half_up b.diameter;
  low = b.at.z -ℤ half_up b.diameter;
}

-- the farther of two, each way
abbrev pub farther_of : Reach → Reach → Reach
farther_of a b = record { far = int_max a.far b.far; wide = int_max a.wide b.wide; high = int_max a.high b.high; low = int_min a.low b.low }

-- how far the turning centre itself reaches
abbrev pub no_reach : Reach
no_reach = record { far = pos 0; wide = pos 0; high = pos 0; low = pos 0 }

-- how far all of these reach, and what was found before
abbrev pub cylinders_reach : Reach → List Cylinder → Reach
cylinders_reach all [] = all
cylinders_reach all (c ∷ cs) = cylinders_reach (farther_of all (cylinder_reach c)) cs

abbrev pub balls_reach : Reach → List Ball → Reach
balls_reach all [] = all
balls_reach all (b ∷ bs) = balls_reach (farther_of all (ball_reach b)) bs

abbrev pub whole_reach : List Cylinder → List Ball → Reach
whole_reach cs bs = balls_reach (cylinders_reach no_reach cs) bs

-- how much what hangs below comes up where A is turned by more than a quarter turn
abbrev pub raised : ℤ → ℤ → ℤ
raised steps low = if int_lt (pos 12) steps then ceil_one ((cosine steps).low *ℤ low) else pos 0

-- the swing of what reaches so far, A being turned by at most so many steps
abbrev pub swing_by : Reach → ℤ → Swing
swing_by all steps = record { radius = all.far; top = int_min all.far (all.wide +ℤ all.high +ℤ raised steps all.low) }

-- where slab s of sixteen begins
abbrev pub swing_cut : Swing → ℤ → ℤ
swing_cut w s = int_div_euclid (s *ℤ (w.top +ℤ w.radius)) (pos 16) -ℤ w.radius

-- half of the square that holds the ball between two heights
abbrev pub swing_half : ℤ → ℤ → ℤ → ℤ
swing_half radius z y =
    let least = int_max (int_max z (neg_ℤ y)) (pos 0) in
    root_up (radius *ℤ radius -ℤ least *ℤ least)

abbrev pub swing_between : ℤ → ℤ → ℤ → Block3
swing_between radius z y =
    let half = swing_half radius z y in
    record { low = point (neg_ℤ half) (neg_ℤ half) z; high = point half half y }

-- a slab of the swing
abbrev pub swing_slab : Swing → ℤ → Block3
swing_slab w s = swing_between w.radius (swing_cut w s) (swing_cut w (s +ℤ pos 1))

-- so many slabs from slab s on
unfoldable pub swing_behind : Swing → ℕ → ℕ → List Block3
swing_behind w s zero = []
swing_behind w s (suc left) = swing_slab w (pos s) ∷ swing_behind w (s + 1) left

-- all sixteen
abbrev pub swing_slabs : Swing → List Block3
swing_slabs w = swing_behind w 0 16
