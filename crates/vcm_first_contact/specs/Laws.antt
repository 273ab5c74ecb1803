-- Statements about the first contact of a box. Each is a clause of a law in src/laws.rt.
use Rattle.std.specs.Prelude.{◌≡◌, ℕ, ℤ, ◌≤ℤ◌, IsTrue, Some}
use Rattle.vcm_num.specs.declared.point.Point.{Point}
use Rattle.vcm_spec.specs.declared.workpiece.Block3.{Block3}
use Rattle.vcm_spec.specs.declared.workpiece.Bounds.{Bounds}
use Rattle.vcm_spec.specs.Workpiece.{is_block}
use Rattle.vcm_carried.specs.Carried.{IsBox, BoxMeets, spread}
use Rattle.vcm_cause.specs.declared.sides.FreeSide.{FreeSide}
use Rattle.vcm_cause.specs.Free.{LiesPast, over, beside}
use Rattle.vcm_first_contact.specs.Lines.{as_point}

-- on a way whose two ends lie at the height that is told over a block for a box, or above it, the box doesn't meet that block
abbrev pub OverIsFreeOfBoxes : Type 0
OverIsFreeOfBoxes =
    (most : ℕ) (box block : Block3) → IsBox most box → IsTrue (is_block block) → (l : Bounds) (z : ℤ) → over (as_point l) (spread box block) ≡ Some z
    → (x y : ℕ → ℤ) → z ≤ℤ x 2 → z ≤ℤ y 2 → (n d : ℕ) → ¬ BoxMeets box x y block n d

-- on a way whose two ends lie at the edge of the side that is told for a box, or past it, the box doesn't meet that block
abbrev pub BesideIsFreeOfBoxes : Type 0
BesideIsFreeOfBoxes =
    (most : ℕ) (box block : Block3) → IsBox most box → IsTrue (is_block block) → (l : Bounds) (a b : Point) (s : FreeSide)
    → beside (as_point l) (spread box block) a b ≡ Some s → (x y : ℕ → ℤ) → LiesPast s.side s.at x → LiesPast s.side s.at y → (n d : ℕ) → ¬ BoxMeets box x y block n d
