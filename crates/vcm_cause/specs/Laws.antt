-- Statements about ways past a block. Each is a clause of a law in src/laws.rt.
use Rattle.std.specs.Prelude.{◌≡◌, ℕ, ℤ, ◌≤ℤ◌, Some}
use Rattle.vcm_num.specs.declared.point.Point.{Point}
use Rattle.vcm_spec.specs.declared.workpiece.Block3.{Block3}
use Rattle.vcm_spec.specs.declared.workpiece.Bounds.{Bounds}
use Rattle.vcm_spec.specs.Contact.{TipMeets}
use Rattle.vcm_cause.specs.declared.sides.FreeSide.{FreeSide}
use Rattle.vcm_cause.specs.Free.{LiesPast, over, beside}

-- on a way whose two ends lie at the height over a block or above it, the tip doesn't meet that block
abbrev pub OverIsFree : Type 0
OverIsFree =
    (l : Bounds) (block : Block3) (z : ℤ) → over l block ≡ Some z → (x y : ℕ → ℤ) → z ≤ℤ x 2 → z ≤ℤ y 2 → (n d : ℕ) → ¬ TipMeets l.tip x y block n d

-- on a way whose two ends lie at the edge of the side that is told, or past it, the tip doesn't meet that block
abbrev pub BesideIsFree : Type 0
BesideIsFree =
    (l : Bounds) (block : Block3) (a b : Point) (s : FreeSide) → beside l block a b ≡ Some s
    → (x y : ℕ → ℤ) → LiesPast s.side s.at x → LiesPast s.side s.at y → (n d : ℕ) → ¬ TipMeets l.tip x y block n d
