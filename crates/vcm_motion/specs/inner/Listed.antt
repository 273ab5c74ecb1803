-- Lists of blocks that a search goes through.
use Rattle.std.specs.Prelude.{◌≡◌, ℕ, ℤ, ◌+◌, ◌<◌, ◌≤◌, List, length, slice_get, slice_index_or, Some, All}
use Rattle.vcm_num.specs.Point.{coordinate}
use Rattle.vcm_spec.specs.declared.workpiece.Block3.{Block3}
use Rattle.vcm_motion.specs.Strips.{strip_at, start_of}

-- the number j stands in the list, at a place from the one to below the other
pub record IsListed (order : List ℕ) (from to j : ℕ) : Type 0 where
  pub place : ℕ
  pub after : from ≤ place
  pub before : place < to
  pub is : slice_index_or order place 0 ≡ j

-- each block that the move can meet is listed
abbrev pub IsCovered : List Block3 → (Block3 → ℕ → ℕ → Type 0) → List ℕ → Type 0
IsCovered blocks M order =
    (j : ℕ) (other : Block3) → slice_get blocks j ≡ Some other → (a b : ℕ) → M other a b → IsListed order 0 (length order) j

-- each block is listed in each strip that it meets
pub record AreStrips (blocks : List Block3) (low : ℤ) (width : ℕ) (starts order : List ℕ) : Type 0 where
  pub wide : 0 < width
  pub count : length starts ≡ 65
  pub rising : (s t : ℕ) → s ≤ t → t ≤ 64 → start_of starts s ≤ start_of starts t
  pub ends : start_of starts 64 ≤ length order
  pub places : All (λ i. i < length blocks) order
  pub each : (j : ℕ) (block : Block3) → slice_get blocks j ≡ Some block → (s : ℕ) →
      strip_at low width (coordinate block.low 0) ≤ s → s ≤ strip_at low width (coordinate block.high 0) →
      IsListed order (start_of starts s) (start_of starts (s + 1)) j
