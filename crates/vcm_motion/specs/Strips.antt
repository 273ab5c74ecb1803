-- Blocks in strips of the x axis.
use Rattle.std.specs.Prelude.{ℕ, zero, suc, ℤ, pos, negsuc, ◌+ℤ◌, ◌-ℤ◌, ◌/◌, ◌-◌, ◌+◌, min, Bool, true}
use Rattle.std.specs.Prelude.{false, nat_le, ◌&&◌, List, [], ◌∷◌, ◌++◌, length, slice_index_or}
use Rattle.std.specs.Int.{int_min, int_max}
use Rattle.vcm_num.specs.Point.{coordinate}
use Rattle.vcm_spec.specs.declared.workpiece.Block3.{Block3}
use Rattle.vcm_spec.specs.declared.workpiece.Bounds.{Bounds}
use Rattle.vcm_spec.specs.Workpiece.{Workpiece}

-- a whole number as a natural one: what lies below 0 counts as 0
abbrev pub nat_part : ℤ → ℕ
nat_part (pos n) = n
nat_part (negsuc n) = 0

-- how far x lies above low, or 0
abbrev pub rise : ℤ → ℤ → ℕ
rise low x = nat_part (x -ℤ low)

-- the strip of a coordinate: of 64, of which the outer two are unbounded; an edge between two strips belongs to the upper
abbrev pub strip_at : ℤ → ℕ → ℤ → ℕ
strip_at low width x = min 63 (rise low x / width)

-- whether a block stands in the strip s
abbrev pub stands_in : ℤ → ℕ → ℕ → Block3 → Bool
stands_in low width s block =
    nat_le (strip_at low width (coordinate block.low 0)) s && nat_le s (strip_at low width (coordinate block.high 0))

-- n stands before the rest where the test holds
abbrev pub numbered : Bool → ℕ → List ℕ → List ℕ
numbered true n rest = n ∷ rest
numbered false n rest = rest

-- the numbers, counted from n, of the blocks that stand in the strip s
abbrev pub standing : ℤ → ℕ → ℕ → ℕ → List Block3 → List ℕ
standing low width s n [] = []
standing low width s n (block ∷ blocks) = numbered (stands_in low width s block) n (standing low width s (n + 1) blocks)

-- the blocks of the strips below s, one strip after the other
abbrev pub listed_below : ℤ → ℕ → List Block3 → ℕ → List ℕ
listed_below low width blocks zero = []
listed_below low width blocks (suc s) = listed_below low width blocks s ++ standing low width s 0 blocks

-- where the strips up to s begin in that list
abbrev pub starts_to : ℤ → ℕ → List Block3 → ℕ → List ℕ
starts_to low width blocks zero = 0 ∷ []
starts_to low width blocks (suc s) = starts_to low width blocks s ++ (length (listed_below low width blocks (suc s)) ∷ [])

-- where the strip s begins; where it ends, the next begins
abbrev pub start_of : List ℕ → ℕ → ℕ
start_of starts s = slice_index_or starts s 0

-- the width of a strip: 64 of them reach over the limits
abbrev pub width_of : Bounds → ℕ
width_of bounds = rise (coordinate bounds.low 0) (coordinate bounds.high 0) / 64 + 1

-- how many blocks stand in the strips from first to last, each counted in each of its strips
abbrev pub listed_in : ℤ → ℕ → List Block3 → ℕ → ℕ → ℕ
listed_in low width blocks first last = length (listed_below low width blocks (last + 1)) - length (listed_below low width blocks first)

-- the first strip that the tip reaches on a move from the x coordinate p to q, h being half its width
abbrev pub first_strip : ℤ → ℕ → ℕ → ℤ → ℤ → ℕ
first_strip low width h p q = strip_at low width (int_min p q -ℤ pos h)

-- and the last one
abbrev pub last_strip : ℤ → ℕ → ℕ → ℤ → ℤ → ℕ
last_strip low width h p q = strip_at low width (int_max p q +ℤ pos h)

-- how many blocks of a workpiece are compared with the move from the place p to the place q
abbrev pub compared : Workpiece → (ℕ → ℤ) → (ℕ → ℤ) → ℕ
compared part p q =
    let low = coordinate part.bounds.low 0 in
    let width = width_of part.bounds in
    let h = part.bounds.tip in
    listed_in low width part.blocks (first_strip low width h (p 0) (q 0)) (last_strip low width h (p 0) (q 0))
