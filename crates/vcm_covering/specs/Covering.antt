-- Blocks that cover triangles.
use Rattle.std.specs.Prelude.{◌≡◌, ℕ, ℤ, List, slice_get, Some, Contains}
use Rattle.vcm_num.specs.Point.{coordinate}
use Rattle.vcm_spec.specs.declared.workpiece.Block3.{Block3}
use Rattle.vcm_covering.specs.Parting.{Corners, IsPoint, IsHeld}

-- the place x, counted in s-ths of a micrometre, lies in a block, its faces included
abbrev pub LiesIn : Block3 → (s : ℕ) → (ℕ → ℤ) → Type 0
LiesIn block s x = IsHeld (coordinate block.low) (coordinate block.high) s x

-- it lies in a block of the list: the one that stands at an index
pub record IsCovered (blocks : List Block3) (s : ℕ) (x : ℕ → ℤ) : Type 0 where
  pub index : ℕ
  pub block : Block3
  pub stands : slice_get blocks index ≡ Some block
  pub inside : LiesIn block s x

-- each point of each triangle lies in a block
abbrev pub Covers : List Block3 → List Corners → Type 0
Covers blocks ts = (t : Corners) → Contains ts t → (s : ℕ) (x : ℕ → ℤ) → IsPoint t s x → IsCovered blocks s x
