-- How far a line goes to a block.
use Rattle.std.specs.Prelude.{◌≡◌, ℕ, ℤ, ◌≤◌, IsTrue}
use Rattle.vcm_num.specs.declared.axis.Axis.{Axis}
use Rattle.vcm_num.specs.Axis.{along}
use Rattle.vcm_spec.specs.declared.workpiece.Block3.{Block3}
use Rattle.vcm_spec.specs.Workpiece.{is_in}

-- t is a distance of at most length at which the place lies in the block, as the fraction t/1
pub record IsReachedAt (x : ℕ → ℤ) (toward : Axis) (length : ℕ) (block : Block3) (t b : ℕ) : Type 0 where
  pub whole : b ≡ 1
  pub within : t ≤ length
  pub holds : IsTrue (is_in block (along x toward t))

-- n is the distance to the plane of the block's near face, or 0 past it
pub record IsAhead (x : ℕ → ℤ) (toward : Axis) (block : Block3) (n : ℕ) : Type 0 where
  pub before : (t : ℕ) → IsTrue (is_in block (along x toward t)) → n ≤ t
  pub there : (t : ℕ) → IsTrue (is_in block (along x toward t)) → IsTrue (is_in block (along x toward n))
