-- Statements about swings. Each is the contract of a law in src/laws.rt.
use Rattle.std.specs.Prelude.{◌≡◌, ℕ, ◌<◌, ℤ, pos, ◌+ℤ◌, ◌-ℤ◌, ◌*ℤ◌, ◌≤ℤ◌, true, List, Option, Contains}
use Rattle.vcm_num.specs.declared.point.Point.{Point}
use Rattle.vcm_num.specs.Point.{coordinate}
use Rattle.vcm_spec.specs.declared.workpiece.Block3.{Block3}
use Rattle.vcm_clearance.specs.declared.told.Told.{Told}
use Rattle.vcm_clearance.specs.declared.room.Room.TheVariants.{Clear}
use Rattle.vcm_clearance.specs.Rooms.{IsRoom}
use Rattle.vcm_probe_set.specs.Probes.{Probe}
use Rattle.vcm_set_clearance.specs.Events.{ChangeAt, Happening, turns}
use Rattle.vcm_set_clearance.specs.Swings.{turns_at, standings}

-- the place q, counted in s-ths of a micrometre, lies between two corners, their faces included
pub record LiesBetween (low high : ℕ → ℤ) (s : ℕ) (q : ℕ → ℤ) : Type 0 where
  pub from_low : (k : ℕ) → k < 3 → (pos s *ℤ low k) ≤ℤ q k
  pub to_high : (k : ℕ) → k < 3 → q k ≤ℤ (pos s *ℤ high k)

-- it lies in a block
abbrev pub LiesIn : Block3 → ℕ → (ℕ → ℤ) → Type 0
LiesIn block = LiesBetween (coordinate block.low) (coordinate block.high)

-- it lies in a box that is counted from the pivot, the sides of the box being moved out by g
abbrev pub LiesAbout : Point → ℕ → Block3 → ℕ → (ℕ → ℤ) → Type 0
LiesAbout pivot g box = LiesBetween (λ k. coordinate pivot k +ℤ coordinate box.low k -ℤ pos g) (λ k. coordinate pivot k +ℤ coordinate box.high k +ℤ pos g)

-- where the room round a body of the swing is g, no place of it, its sides moved out by g, lies in a block at a change at which the head turns, nor on a face of one
abbrev pub ClearSwingsStandClear : Type 0
ClearSwingsStandClear =
    (blocks body : List Block3) (ps : List Probe) (es : List Happening) (g : ℕ) (told : Option Told) → IsRoom blocks body (standings ps es) (Clear g told)
    → (c : ChangeAt) → Contains es (turns c) → turns_at ps c ≡ true → (box block : Block3) → Contains body box → Contains blocks block
    → (s : ℕ) (q : ℕ → ℤ) → 0 < s → LiesAbout c.pivot g box s q → LiesIn block s q → ⊥
