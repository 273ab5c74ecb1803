-- A workpiece whose blocks are moved.
use Rattle.std.specs.Prelude.{◌≡◌, ◌⊎◌, ℕ, ◌+◌, ◌+ℤ◌, Bool, true, false, ◌&&◌, if◌then◌else◌, List, [], ◌∷◌, slice_get, unwrap_or, Option, Some, None, Result, Ok, Err}
use Rattle.vcm_num.specs.declared.point.Point.{Point}
use Rattle.vcm_num.specs.Point.{point, coordinate, is_near}
use Rattle.vcm_spec.specs.declared.workpiece.Block3.{Block3}
use Rattle.vcm_spec.specs.Workpiece.{Workpiece}
use Rattle.vcm_part.specs.declared.fault.PartCode.TheVariants.{NoMemory, OutOfRange, HomeNotClear}
use Rattle.vcm_part.specs.declared.fault.PartFault.{PartFault}
use Rattle.vcm_part.specs.Faults.{fault}
use Rattle.vcm_part.specs.Blocks.{with_blocks, may_have}

-- a point, moved by another
abbrev pub moved : Point → Point → Point
moved place p = point (coordinate p 0 +ℤ coordinate place 0) (coordinate p 1 +ℤ coordinate place 1) (coordinate p 2 +ℤ coordinate place 2)

-- a block, moved
abbrev pub moved_block : Point → Block3 → Block3
moved_block place b = record { low = moved place b.low; high = moved place b.high }

-- a block at its place: it stays where it is fixed, and else it is moved
abbrev pub placed_block : Point → Bool → Block3 → Block3
placed_block place true b = b
placed_block place false b = moved_block place b

-- whether the block at an index is fixed; where nothing is said of it, it isn't
abbrev pub is_fixed : List Bool → ℕ → Bool
is_fixed fixtures i = unwrap_or (slice_get fixtures i) false

-- blocks at their places, this index being the first one's
abbrev pub placed_blocks : Point → List Bool → ℕ → List Block3 → List Block3
placed_blocks place fixtures i [] = []
placed_blocks place fixtures i (b ∷ bs) = placed_block place (is_fixed fixtures i) b ∷ placed_blocks place fixtures (i + 1) bs

-- whether the corners of a block are at most a kilometre from 0 on each axis
abbrev pub is_in_range : Block3 → Bool
is_in_range b = is_near b.low && is_near b.high

-- the number of the first block with a corner that isn't, this number being the first one's
abbrev pub first_far : ℕ → List Block3 → Option ℕ
first_far n [] = None
first_far n (b ∷ bs) = if is_in_range b then first_far (n + 1) bs else Some n

-- the workpiece with moved blocks, unless one of them is out of range, or the tip meets one at home
abbrev pub judged : Workpiece → List Block3 → Option ℕ → Result Workpiece PartFault
judged part blocks (Some n) = Err (fault OutOfRange n)
judged part blocks None = if may_have part blocks then Ok (with_blocks blocks part) else Err (fault HomeNotClear 0)

-- the workpiece at a place: its blocks are moved, but those that are fixed
abbrev pub placed_part : Point → List Bool → Workpiece → Result Workpiece PartFault
placed_part place fixtures part = let blocks = placed_blocks place fixtures 0 part.blocks in judged part blocks (first_far 1 blocks)

-- what moving may answer: the workpiece or the refusal, or that a growth of memory was refused
abbrev pub IsPlaced : Point → List Bool → Workpiece → Result Workpiece PartFault → Type 0
IsPlaced place fixtures part (Ok placed) = placed_part place fixtures part ≡ Ok placed
IsPlaced place fixtures part (Err e) = (e ≡ fault NoMemory 0) ⊎ (placed_part place fixtures part ≡ Err e)
