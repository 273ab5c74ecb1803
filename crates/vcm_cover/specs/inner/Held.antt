-- Triangles and ranges that blocks hold.
use Rattle.std.specs.Prelude.{ℕ, ℤ, List}
use Rattle.vcm_spec.specs.declared.workpiece.Block3.{Block3}
use Rattle.vcm_mesh.specs.declared.triangle.Triangle.{Triangle}
use Rattle.vcm_covering.specs.Parting.{Corners, IsPoint}
use Rattle.vcm_covering.specs.Covering.{IsCovered}
use Rattle.vcm_boxing.specs.declared.range.Range.{Range}
use Rattle.vcm_boxing.specs.Ranges.{IsIn}
use Rattle.vcm_cover.specs.Models.{corners_of}

-- each point of a triangle lies in a block
pub record IsHeldWhole (blocks : List Block3) (t : Triangle) : Type 0 where
  pub held : (s : ℕ) (x : ℕ → ℤ) → IsPoint (corners_of t) s x → IsCovered blocks s x

-- each point of a triangle that lies in a range lies in a block
pub record IsHeldIn (t : Corners) (blocks : List Block3) (r : Range) : Type 0 where
  pub held : (s : ℕ) (x : ℕ → ℤ) → IsPoint t s x → IsIn r s x → IsCovered blocks s x

-- each place in a range lies in a block
pub record IsFilled (blocks : List Block3) (r : Range) : Type 0 where
  pub filled : (s : ℕ) (x : ℕ → ℤ) → IsIn r s x → IsCovered blocks s x
