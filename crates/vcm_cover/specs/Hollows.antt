-- That blocks leave no hollow: from each place that lies in no block a way leads out.
use Rattle.std.specs.Prelude.{◌≡◌, ℕ, ℤ, pos, ◌+◌, ◌*◌, ◌<◌, ◌+ℤ◌, ◌*ℤ◌, ◌⊎◌, List, slice_get, Some}
use lib.Signed.{◌<ℤ◌}
use Rattle.vcm_num.specs.Point.{coordinate}
use Rattle.vcm_spec.specs.declared.workpiece.Block3.{Block3}
use Rattle.vcm_covering.specs.Covering.{IsCovered}

-- on an axis the place x, counted in s-ths of a micrometre, lies below a block
abbrev pub LiesBelow : Block3 → ℕ → ℕ → (ℕ → ℤ) → Type 0
LiesBelow block k s x = x k <ℤ (pos s *ℤ coordinate block.low k)

-- it lies above it
abbrev pub LiesAbove : Block3 → ℕ → ℕ → (ℕ → ℤ) → Type 0
LiesAbove block k s x = (pos s *ℤ coordinate block.high k) <ℤ x k

-- on some axis both the place x, counted in s-ths, and the place y, counted in t-ths, lie on one side of a block: the straight way between them keeps off it
pub data IsPast (block : Block3) (s : ℕ) (x : ℕ → ℤ) (t : ℕ) (y : ℕ → ℤ) : Type 0 where
  both_below : (k : ℕ) → k < 3 → LiesBelow block k s x → LiesBelow block k t y → IsPast block s x t y
  both_above : (k : ℕ) → k < 3 → LiesAbove block k s x → LiesAbove block k t y → IsPast block s x t y

-- the straight way from x to y keeps off each block
abbrev pub IsFreeWay : List Block3 → ℕ → (ℕ → ℤ) → ℕ → (ℕ → ℤ) → Type 0
IsFreeWay blocks s x t y = (i : ℕ) (block : Block3) → slice_get blocks i ≡ Some block → IsPast block s x t y

-- on some axis all blocks lie on one side of the place
pub data IsOutside (blocks : List Block3) (s : ℕ) (x : ℕ → ℤ) : Type 0 where
  below_all : (k : ℕ) → k < 3 → ((i : ℕ) (block : Block3) → slice_get blocks i ≡ Some block → LiesBelow block k s x) → IsOutside blocks s x
  above_all : (k : ℕ) → k < 3 → ((i : ℕ) (block : Block3) → slice_get blocks i ≡ Some block → LiesAbove block k s x) → IsOutside blocks s x

-- straight ways, one after another, that keep off each block lead from the place to one outside
pub data LeadsOut (blocks : List Block3) : ℕ → (ℕ → ℤ) → Type 0 where
  is_out : {s : ℕ} {x : ℕ → ℤ} → IsOutside blocks s x → LeadsOut blocks s x
  onward : {s t : ℕ} {x y : ℕ → ℤ} → 0 < t → IsFreeWay blocks s x t y → LeadsOut blocks t y → LeadsOut blocks s x

-- from each place that lies in no block a way leads out
abbrev pub LeavesNoHollow : List Block3 → Type 0
LeavesNoHollow blocks = (s : ℕ) (x : ℕ → ℤ) → 0 < s → IsCovered blocks s x ⊎ LeadsOut blocks s x

-- the place z, counted in r-ths, lies on the straight way from x to y: a mean of the two
pub record IsOnWay (s : ℕ) (x : ℕ → ℤ) (t : ℕ) (y : ℕ → ℤ) (r : ℕ) (z : ℕ → ℤ) : Type 0 where
  pub u : ℕ
  pub v : ℕ
  pub some : 0 < u + v
  pub whole : (u + v) * (s * t) ≡ r
  pub on_axis : (k : ℕ) → k < 3 → z k ≡ pos u *ℤ (pos t *ℤ x k) +ℤ pos v *ℤ (pos s *ℤ y k)

-- no place of a free way lies in a block
abbrev pub FreeWaysAreFree : Type 0
FreeWaysAreFree = (blocks : List Block3) (s : ℕ) (x : ℕ → ℤ) (t : ℕ) (y : ℕ → ℤ) → 0 < s → 0 < t → IsFreeWay blocks s x t y
    → (r : ℕ) (z : ℕ → ℤ) → IsOnWay s x t y r z → IsCovered blocks r z → ⊥
