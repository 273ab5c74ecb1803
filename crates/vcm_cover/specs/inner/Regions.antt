-- Regions: open boxes into which no block reaches.
use Rattle.std.specs.Prelude.{◌≡◌, ℕ, ℤ, pos, ◌<◌, ◌*ℤ◌, ◌≤ℤ◌, ◌⊎◌, List, slice_get, Some}
use Rattle.std.specs.List.{All}
use lib.Signed.{◌<ℤ◌}
use Rattle.vcm_num.specs.Point.{coordinate}
use Rattle.vcm_spec.specs.declared.workpiece.Block3.{Block3}
use Rattle.vcm_covering.specs.Covering.{IsCovered}
use Rattle.vcm_boxing.specs.declared.range.Range.{Range}
use Rattle.vcm_boxing.specs.declared.range.Stretch.{Stretch}
use Rattle.vcm_cover.specs.declared.region.Region.{Region}
use Rattle.vcm_boxing.specs.Ranges.{IsIn, IsOn, numbers}
use Rattle.vcm_cover.specs.Hollows.{LeadsOut}

-- the place, counted in s-ths of a micrometre, lies in an open box
pub record IsWithin (g : Region) (s : ℕ) (x : ℕ → ℤ) : Type 0 where
  pub above_low : (k : ℕ) → k < 3 → (pos s *ℤ numbers g.low k) <ℤ x k
  pub below_high : (k : ℕ) → k < 3 → x k <ℤ (pos s *ℤ numbers g.high k)

-- an open stretch has nothing in common with a closed one
pub data IsOff (low high block_low block_high : ℤ) : Type 0 where
  ends_before : high ≤ℤ block_low → IsOff low high block_low block_high
  begins_after : block_high ≤ℤ low → IsOff low high block_low block_high

-- a block lies on one side of a region
pub data IsAside (g : Region) (block : Block3) : Type 0 where
  after : (k : ℕ) → k < 3 → numbers g.high k ≤ℤ coordinate block.low k → IsAside g block
  before : (k : ℕ) → k < 3 → coordinate block.high k ≤ℤ numbers g.low k → IsAside g block

-- on an axis all blocks lie from a coordinate on, or up to it
abbrev pub AreFrom : ℕ → ℤ → List Block3 → Type 0
AreFrom k at = All (λ block. at ≤ℤ coordinate block.low k)

abbrev pub AreUpTo : ℕ → ℤ → List Block3 → Type 0
AreUpTo k at = All (λ block. coordinate block.high k ≤ℤ at)

-- all blocks lie on one side of a region
pub data AreAside (g : Region) (blocks : List Block3) : Type 0 where
  all_after : (k : ℕ) → k < 3 → AreFrom k (numbers g.high k) blocks → AreAside g blocks
  all_before : (k : ℕ) → k < 3 → AreUpTo k (numbers g.low k) blocks → AreAside g blocks

-- two open stretches have a part in common
pub record IsSharedOn (low high other_low other_high : ℤ) : Type 0 where
  pub own : low <ℤ high
  pub other : other_low <ℤ other_high
  pub left : low <ℤ other_high
  pub right : other_low <ℤ high

-- two regions have
pub record IsOverlap (g h : Region) : Type 0 where
  pub on_axis : (k : ℕ) → k < 3 → IsSharedOn (numbers g.low k) (numbers g.high k) (numbers h.low k) (numbers h.high k)

-- from each place of a region a way leads out
pub record IsWayOut (blocks : List Block3) (g : Region) : Type 0 where
  pub leads : (s : ℕ) (x : ℕ → ℤ) → 0 < s → IsWithin g s x → LeadsOut blocks s x

-- the place lies in a region of a list
pub record IsInSome (regions : List Region) (s : ℕ) (x : ℕ → ℤ) : Type 0 where
  pub index : ℕ
  pub region : Region
  pub stands : slice_get regions index ≡ Some region
  pub inside : IsWithin region s x

-- an open stretch holds all of a stretch
pub record IsWideOpen (low high : ℤ) (w : Stretch) : Type 0 where
  pub from_low : (s : ℕ) (z : ℤ) → 0 < s → IsOn w s z → (pos s *ℤ low) <ℤ z
  pub to_high : (s : ℕ) (z : ℤ) → 0 < s → IsOn w s z → z <ℤ (pos s *ℤ high)

-- each place of a range lies in a region of a list
pub record IsFree (regions : List Region) (r : Range) : Type 0 where
  pub free : (s : ℕ) (x : ℕ → ℤ) → 0 < s → IsIn r s x → IsInSome regions s x

-- each place of a range lies in a block or in a region
pub record IsSettled (blocks : List Block3) (regions : List Region) (r : Range) : Type 0 where
  pub settled : (s : ℕ) (x : ℕ → ℤ) → 0 < s → IsIn r s x → IsCovered blocks s x ⊎ IsInSome regions s x

-- all blocks lie between two corners
pub record AreWithin (blocks : List Block3) (low high : List ℤ) : Type 0 where
  pub from_low : (k : ℕ) → k < 3 → AreFrom k (numbers low k) blocks
  pub to_high : (k : ℕ) → k < 3 → AreUpTo k (numbers high k) blocks
