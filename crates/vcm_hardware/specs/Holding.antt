-- What it means that boxes hold what hangs on a head as it is turned. A turn is given by whole numbers over one denominator, and so is a place: no roots are needed.
use Rattle.std.specs.Prelude.{◌≡◌, ℕ, ◌*◌, ◌<◌, ℤ, pos, ◌+ℤ◌, ◌-ℤ◌, ◌*ℤ◌, ◌≤ℤ◌, true, List, Ok, Contains}
use Rattle.std.specs.Int.{int_min, int_max}
use Rattle.vcm_num.specs.declared.point.Point.{Point}
use Rattle.vcm_num.specs.Point.{coordinate}
use Rattle.vcm_spec.specs.declared.workpiece.Block3.{Block3}
use Rattle.vcm_hardware.specs.declared.interval.Interval.{Interval}
use Rattle.vcm_hardware.specs.declared.angle.Along.{Along}
use Rattle.vcm_hardware.specs.declared.angle.Along.TheVariants.{X, Y, Z}
use Rattle.vcm_hardware.specs.declared.angle.Turning.{Turning}
use Rattle.vcm_hardware.specs.declared.description.Place.{Place}
use Rattle.vcm_hardware.specs.declared.description.StillBox.{StillBox}
use Rattle.vcm_hardware.specs.declared.description.Cylinder.{Cylinder}
use Rattle.vcm_hardware.specs.declared.description.Ball.{Ball}
use Rattle.vcm_hardware.specs.declared.description.Choice.{Choice}
use Rattle.vcm_hardware.specs.Intervals.{wide}
use Rattle.vcm_hardware.specs.Turned.{towards, column, turning_by}
use Rattle.vcm_hardware.specs.Slabs.{axis_between}
use Rattle.vcm_hardware.specs.Described.{Described}
use Rattle.vcm_hardware.specs.HardwareFile.{differs_once, described_of}
use Rattle.vcm_hardware.specs.Boxes.{turning_of, tip_of, part_boxes, ball_box, centre, head_box, pivot}

-- a place and a corner on an axis
abbrev pub place_on : Place → Along → ℤ
place_on p X = p.x
place_on p Y = p.y
place_on p Z = p.z

abbrev pub corner_on : Point → Along → ℤ
corner_on p X = coordinate p 0
corner_on p Y = coordinate p 1
corner_on p Z = coordinate p 2

-- a sum over the three axes
abbrev pub over_axes : (Along → ℤ) → ℤ
over_axes f = f X +ℤ f Y +ℤ f Z

-- v, counted in n-ths, lies in an interval
pub record IsIn (n : ℕ) (v : ℤ) (x : Interval) : Type 0 where
  pub low : (pos n *ℤ x.low) ≤ℤ v
  pub high : v ≤ℤ (pos n *ℤ x.high)

-- what two rows of a turn give as a product, counted in n-ths of n-ths: 1 where they are the same, else 0
abbrev pub rows_give : ℕ → Along → Along → ℤ
rows_give n X X = pos (n * n)
rows_give n X Y = pos 0
rows_give n X Z = pos 0
rows_give n Y X = pos 0
rows_give n Y Y = pos (n * n)
rows_give n Y Z = pos 0
rows_give n Z X = pos 0
rows_give n Z Y = pos 0
rows_give n Z Z = pos (n * n)

-- a turn, in n-ths: axis k of what hangs on the head points to m k. Its directions lie in the intervals of a turning, in ten-millionths
pub record IsTurn (t : Turning) (n : ℕ) (m : Along → Along → ℤ) : Type 0 where
  pub positive : 0 < n
  pub rows : (i j : Along) → over_axes (λ k. m k i *ℤ m k j) ≡ rows_give n i j
  pub within : (k i : Along) → IsIn n (pos 10000000 *ℤ m k i) (wide (towards (column t k) i))

-- the way to a place that is counted in s-ths, from one of whole micrometres
abbrev pub way_from : ℕ → Place → (Along → ℤ) → Along → ℤ
way_from s at p i = p i -ℤ pos s *ℤ place_on at i

-- the square of how far a way leads off an axis
abbrev pub square_aside : Along → (Along → ℤ) → ℤ
square_aside X q = q Y *ℤ q Y +ℤ q Z *ℤ q Z
square_aside Y q = q X *ℤ q X +ℤ q Z *ℤ q Z
square_aside Z q = q X *ℤ q X +ℤ q Y *ℤ q Y

-- the place p, counted in s-ths of a micrometre from the turning centre, is a point of a cylinder along this axis, as it hangs at A 0, B 0
pub record IsAbout (a : Along) (c : Cylinder) (s : ℕ) (p : Along → ℤ) : Type 0 where
  pub positive : 0 < s
  pub from_low : (pos s *ℤ int_min (place_on c.from a) (place_on c.to a)) ≤ℤ p a
  pub to_high : p a ≤ℤ (pos s *ℤ int_max (place_on c.from a) (place_on c.to a))
  pub near : (pos 4 *ℤ square_aside a (way_from s c.from p)) ≤ℤ ((pos s *ℤ c.diameter) *ℤ (pos s *ℤ c.diameter))

-- where the turn takes it, seen from the place of the tip
abbrev pub turned_place : (Along → Along → ℤ) → ℕ → Place → (Along → ℤ) → Along → ℤ
turned_place m s tip p i = over_axes (λ k. m k i *ℤ way_from s tip p k)

-- the place y, counted in s-ths of a micrometre, lies in a box, its faces included
pub record LiesIn (b : Block3) (s : ℕ) (y : Along → ℤ) : Type 0 where
  pub low : (i : Along) → (pos s *ℤ corner_on b.low i) ≤ℤ y i
  pub high : (i : Along) → y i ≤ℤ (pos s *ℤ corner_on b.high i)

-- it lies in one of the boxes
pub record IsCovered (boxes : List Block3) (s : ℕ) (y : Along → ℤ) : Type 0 where
  pub box : Block3
  pub stands : Contains boxes box
  pub inside : LiesIn box s y

-- each point of a part that is turned lies in one of its boxes
abbrev pub PartsAreHeld : Type 0
PartsAreHeld = (a b : ℤ) (tip : Place) (part : Cylinder) → differs_once part.from part.to ≡ true → pos 0 ≤ℤ part.diameter
    → (n : ℕ) (m : Along → Along → ℤ) → IsTurn (turning_by a b) n m → (s : ℕ) (p : Along → ℤ) → IsAbout (axis_between part.from part.to) part s p
    → IsCovered (part_boxes (turning_by a b) tip part) (s * n) (turned_place m s tip p)

-- the place p, counted in s-ths of a micrometre from the turning centre, is a point of a ball, as it hangs at A 0, B 0
pub record IsAround (ball : Ball) (s : ℕ) (p : Along → ℤ) : Type 0 where
  pub positive : 0 < s
  pub near : (pos 4 *ℤ over_axes (λ i. way_from s ball.at p i *ℤ way_from s ball.at p i)) ≤ℤ ((pos s *ℤ ball.diameter) *ℤ (pos s *ℤ ball.diameter))

-- each point of a ball that is turned lies in its cube
abbrev pub BallsAreHeld : Type 0
BallsAreHeld = (a b : ℤ) (tip : Place) (ball : Ball) → pos 0 ≤ℤ ball.diameter → (n : ℕ) (m : Along → Along → ℤ) → IsTurn (turning_by a b) n m
    → (s : ℕ) (p : Along → ℤ) → IsAround ball s p → LiesIn (ball_box (turning_by a b) tip ball) (s * n) (turned_place m s tip p)

-- the place p, counted in s-ths of a micrometre from the turning centre, is a point of a box that stands still
pub record IsInStill (still : StillBox) (s : ℕ) (p : Along → ℤ) : Type 0 where
  pub low : (i : Along) → (pos s *ℤ place_on still.low i) ≤ℤ p i
  pub high : (i : Along) → p i ≤ℤ (pos s *ℤ place_on still.high i)

-- a place that isn't turned, seen from where the turn takes the place of the tip
abbrev pub still_place : (Along → Along → ℤ) → (n s : ℕ) → Place → (Along → ℤ) → Along → ℤ
still_place m n s tip p i = pos n *ℤ p i -ℤ over_axes (λ k. m k i *ℤ (pos s *ℤ place_on tip k))

-- each point of a box that stands still lies in the box that is written for it
abbrev pub StillBoxesAreHeld : Type 0
StillBoxesAreHeld = (a b : ℤ) (tip : Place) (still : StillBox) (n : ℕ) (m : Along → Along → ℤ) → IsTurn (turning_by a b) n m
    → (s : ℕ) (p : Along → ℤ) → IsInStill still s p → LiesIn (head_box (centre (turning_by a b) tip) still) (s * n) (still_place m n s tip p)

-- what is at most a micrometre from a coordinate
abbrev pub near_by : ℤ → Interval
near_by z = record { low = z -ℤ pos 1; high = z +ℤ pos 1 }

-- the pivot that is written for a probe is on each axis at most a micrometre from the turning centre, seen from the turned tip
abbrev pub PivotsAreNear : Type 0
PivotsAreNear = (bytes : List ℕ) (d : Described) → described_of bytes ≡ Ok d → (choice : Choice) (n : ℕ) (m : Along → Along → ℤ)
    → IsTurn (turning_of d.hanging.turn choice) n m → (i : Along)
    → IsIn n (still_place m n 1 (tip_of d.hanging.balls choice) (λ k. pos 0) i)
    (near_by (corner_on (pivot (centre (turning_of d.hanging.turn choice) (tip_of d.hanging.balls choice))) i))
