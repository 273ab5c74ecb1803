-- Worked examples of the next block on the line of a way, and of how far a way may go.
use Rattle.std.specs.Prelude.{◌≡◌, refl, ℤ, pos, negsuc, [], ◌∷◌, Some, None}
use Rattle.vcm_num.specs.declared.point.Point.{Point}
use Rattle.vcm_num.specs.Point.{point}
use Rattle.vcm_spec.specs.declared.workpiece.Block3.{Block3}
use Rattle.vcm_cause.specs.Ahead.{far_to, free_length, nearest_of}

-- a table below, with its top at -5 mm, and a block on it that is 20 mm high
abbrev table : Block3
table = record { low = point (pos 0) (pos 0) (negsuc 19999); high = point (pos 60000) (pos 60000) (negsuc 4999) }

abbrev block : Block3
block = record { low = point (pos 10000) (pos 10000) (pos 0); high = point (pos 30000) (pos 30000) (pos 20000) }

-- a place over x 35, beside the block
abbrev beside : ℤ → Point
beside z = point (pos 35000) (pos 20000) z

-- a search down beside the block ends at 18 mm: a point would meet the table 23 mm farther down, a tip that is 2 mm wide 22
pub farther_down : far_to 0 (beside (pos 22000)) (beside (pos 18000)) table ≡ Some (pos 23000)
farther_down = refl

pub with_a_tip : far_to 1000 (beside (pos 22000)) (beside (pos 18000)) table ≡ Some (pos 22000)
with_a_tip = refl

-- the block isn't on that line, but is where the tip reaches over to it; then it is behind the end of the search, and not farther on
pub not_on_the_line : far_to 1000 (beside (pos 22000)) (beside (pos 18000)) block ≡ None
not_on_the_line = refl

pub behind_the_end : far_to 5000 (beside (pos 42000)) (beside (pos 18000)) block ≡ None
behind_the_end = refl

-- of both the table is the next
pub the_table_is_next : nearest_of 0 (beside (pos 22000)) (beside (pos 18000)) None 0 (block ∷ table ∷ []) ≡ Some (record { block = 2; far = pos 23000 })
the_table_is_next = refl

-- up from the table below the block: 5 mm, and one micrometre less is free
pub up_to_the_block : free_length 0 block (point (pos 20000) (pos 20000) (negsuc 4999)) (point (pos 20000) (pos 20000) (pos 9000)) ≡ Some (pos 4999)
up_to_the_block = refl
