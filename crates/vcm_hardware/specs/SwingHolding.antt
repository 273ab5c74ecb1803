-- What it means that the swing holds what turns. An angle is given by whole numbers over one denominator, and so is a place: no roots are needed.
use Rattle.std.specs.Prelude.{◌≡◌, ◌⊎◌, refl, ℕ, ◌*◌, ◌<◌, ℤ, pos, negsuc, ◌+ℤ◌, ◌*ℤ◌, ◌≤ℤ◌, neg_ℤ, List, Ok, Contains}
use Rattle.vcm_hardware.specs.declared.angle.Along.{Along}
use Rattle.vcm_hardware.specs.declared.angle.Along.TheVariants.{X, Y, Z}
use Rattle.vcm_hardware.specs.declared.description.Cylinder.{Cylinder}
use Rattle.vcm_hardware.specs.declared.description.Ball.{Ball}
use Rattle.vcm_hardware.specs.Intervals.{wide}
use Rattle.vcm_hardware.specs.Turned.{cosine, sine, turning_by}
use Rattle.vcm_hardware.specs.Slabs.{axis_between}
use Rattle.vcm_hardware.specs.Boxes.{origin}
use Rattle.vcm_hardware.specs.Swings.{whole_reach, swing_by, swing_slabs}
use Rattle.vcm_hardware.specs.Described.{Described}
use Rattle.vcm_hardware.specs.HardwareFile.{described_of}
use Rattle.vcm_hardware.specs.ProbeFile.{most_steps}
use Rattle.vcm_hardware.specs.Holding.{place_on, IsIn, IsTurn, turned_place, IsAbout, IsAround, IsCovered}

-- an angle by its cosine and its sine, both over one number
pub record Angle : Type 0 where
  pub over : ℕ
  pub cosine : ℤ
  pub sine : ℤ

-- their squares give 1
pub record IsAngle (a : Angle) : Type 0 where
  pub positive : 0 < a.over
  pub whole : (a.cosine *ℤ a.cosine +ℤ a.sine *ℤ a.sine) ≡ pos (a.over * a.over)

-- to either side it is at most so many steps of 7.5 degrees: its cosine is at least the lower end of theirs
abbrev pub IsUpTo : ℤ → Angle → Type 0
IsUpTo steps a = (pos a.over *ℤ (cosine steps).low) ≤ℤ (pos 10000000 *ℤ a.cosine)

-- a turn by A and then by B: axis k of what hangs on the head points to axes_by a b k, counted in parts of both numbers
abbrev pub axes_by : Angle → Angle → Along → Along → ℤ
axes_by a b X X = pos a.over *ℤ b.cosine
axes_by a b X Y = pos a.over *ℤ b.sine
axes_by a b X Z = pos 0
axes_by a b Y X = neg_ℤ (b.sine *ℤ a.cosine)
axes_by a b Y Y = b.cosine *ℤ a.cosine
axes_by a b Y Z = neg_ℤ (pos b.over *ℤ a.sine)
axes_by a b Z X = neg_ℤ (b.sine *ℤ a.sine)
axes_by a b Z Y = b.cosine *ℤ a.sine
axes_by a b Z Z = pos b.over *ℤ a.cosine

-- an angle's cosine and sine lie where the table has those of so many steps of 7.5 degrees
pub record IsStep (k : ℤ) (a : Angle) : Type 0 where
  pub angle : IsAngle a
  pub is_cosine : IsIn a.over (pos 10000000 *ℤ a.cosine) (wide (cosine k))
  pub is_sine : IsIn a.over (pos 10000000 *ℤ a.sine) (wide (sine k))

-- where A and B are such angles, the head is turned by so many steps
abbrev pub AnglesGiveTurns : Type 0
AnglesGiveTurns = (i j : ℤ) (a b : Angle) → IsStep i a → IsStep j b → IsTurn (turning_by i j) (a.over * b.over) (axes_by a b)

-- the place p, counted in s-ths of a micrometre from the turning centre, is a point of one of these parts and balls, as they hang at A 0, B 0
abbrev pub IsOfSome : List Cylinder → List Ball → ℕ → (Along → ℤ) → Type 0
IsOfSome parts balls s p = ((c : Cylinder) × Contains parts c × IsAbout (axis_between c.from c.to) c s p) ⊎ ((ball : Ball) × Contains balls ball × IsAround ball s p)

-- each point of what turns lies, seen from the turning centre, in one of the boxes of the swing, at each A up to the greatest one of the probes and at each B
abbrev pub SwingHoldsWhatTurns : Type 0
SwingHoldsWhatTurns = (bytes : List ℕ) (d : Described) → described_of bytes ≡ Ok d → (a b : Angle) → IsAngle a → IsAngle b
    → IsUpTo (most_steps (pos 0) d.choices) a → (s : ℕ) (p : Along → ℤ) → IsOfSome d.hanging.parts d.hanging.balls s p
    → IsCovered (swing_slabs (swing_by (whole_reach d.hanging.parts d.hanging.balls) (most_steps (pos 0) d.choices))) (s * (a.over * b.over)) (turned_place (axes_by a b) s origin p)

-- what hangs down by 1 lies towards +y at A 90, B 180, so that it measures towards +y; and at A 90, B 90 towards +x
abbrev quarter : Angle
quarter = record { over = 1; cosine = pos 0; sine = pos 1 }

abbrev half : Angle
half = record { over = 1; cosine = negsuc 0; sine = pos 0 }

abbrev down : Along → ℤ
down = place_on (record { x = pos 0; y = pos 0; z = negsuc 0 })

pub towards_y : turned_place (axes_by quarter half) 1 origin down Y ≡ pos 1
towards_y = refl

pub towards_x : turned_place (axes_by quarter quarter) 1 origin down X ≡ pos 1
towards_x = refl
