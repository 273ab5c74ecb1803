-- The next block on the line of a way along an axis, past a place of it.
use Rattle.std.specs.Prelude.{ℕ, ◌+◌, ℤ, pos, ◌+ℤ◌, ◌-ℤ◌, Bool, true, ◌&&◌, int_lt, int_le, if◌then◌else◌, List, [], ◌∷◌, Option, Some, None}
use Rattle.std.specs.Ordering.{int_eq}
use Rattle.vcm_num.specs.declared.point.Point.{Point}
use Rattle.vcm_num.specs.Point.{coordinate}
use Rattle.vcm_spec.specs.declared.workpiece.Block3.{Block3}
use Rattle.vcm_spec.specs.Workpiece.{Workpiece}
use Rattle.vcm_cause.specs.declared.ahead.Ahead.{Ahead}

-- whether the tip, where it stands on this axis, shares a coordinate with the block
abbrev pub is_level : ℕ → Block3 → Point → ℕ → Bool
is_level tip block at k =
    int_le (coordinate block.low k -ℤ pos tip) (coordinate at k) && int_le (coordinate at k) (coordinate block.high k +ℤ pos tip)

-- whether the way from a to b doesn't go past the block on this axis: it goes along the axis, or is level with the block on it
abbrev pub is_on_line : ℕ → Block3 → (a b : Point) → ℕ → Bool
is_on_line tip block a b k = if int_eq (coordinate a k) (coordinate b k) then is_level tip block a k else true

-- how far ahead of a place the tip meets the block on this axis, in the direction from a to b; nothing where the way doesn't go along it
abbrev pub gap_on : ℕ → Block3 → (a b at : Point) → ℕ → ℤ
gap_on tip block a b at k =
    if int_lt (coordinate a k) (coordinate b k) then coordinate block.low k -ℤ pos tip -ℤ coordinate at k
    else (if int_lt (coordinate b k) (coordinate a k) then coordinate at k -ℤ coordinate block.high k -ℤ pos tip else pos 0)

-- how far ahead of a place the tip meets the block on a way along an axis
abbrev pub gap_to : ℕ → Block3 → (a b at : Point) → ℤ
gap_to tip block a b at = gap_on tip block a b at 0 +ℤ gap_on tip block a b at 1 +ℤ gap_on tip block a b at 2

-- whether the block lies on the line of the way from a to b
abbrev pub is_in_line : ℕ → Block3 → (a b : Point) → Bool
is_in_line tip block a b = is_on_line tip block a b 0 && (is_on_line tip block a b 1 && is_on_line tip block a b 2)

-- a length that is told: more than nothing, four kilometres at most
abbrev pub told : ℤ → Option ℤ
told z = if int_lt (pos 0) z && int_le z (pos 4000000000) then Some z else None

-- how far past the end of the way from a to b the tip meets the block, if it lies there on its line
abbrev pub far_to : ℕ → (a b : Point) → Block3 → Option ℤ
far_to tip a b block = if is_in_line tip block a b then told (gap_to tip block a b b) else None

-- the nearer of the block that was found and this one; of those equally far the one that was found
abbrev pub nearer_than : Ahead → ℕ → ℤ → Ahead
nearer_than old number far = if int_le old.far far then old else record { block = number; far = far }

abbrev pub nearer : Option Ahead → ℕ → Option ℤ → Option Ahead
nearer found number None = found
nearer None number (Some far) = Some (record { block = number; far = far })
nearer (Some old) number (Some far) = Some (nearer_than old number far)

-- the nearest of these blocks, of which the first has the number behind this one, and of what was found
abbrev pub nearest_of : ℕ → (a b : Point) → Option Ahead → (before : ℕ) → List Block3 → Option Ahead
nearest_of tip a b found before [] = found
nearest_of tip a b found before (block ∷ blocks) = nearest_of tip a b (nearer found (before + 1) (far_to tip a b block)) (before + 1) blocks

-- the next block past the end of the way from a to b along an axis; of those equally far the first
abbrev pub ahead : Workpiece → (a b : Point) → Option Ahead
ahead part a b = nearest_of part.bounds.tip a b None 0 part.blocks

-- the longest way that is free of the block, from a towards b along an axis
abbrev pub free_length : ℕ → Block3 → (a b : Point) → Option ℤ
free_length tip block a b = told (gap_to tip block a b a -ℤ pos 1)
