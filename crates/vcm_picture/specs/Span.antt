-- The least and the greatest coordinate on an axis.
use Rattle.std.specs.Prelude.{ℕ, ℤ, Bool, if◌then◌else◌, List, [], ◌∷◌}
use Rattle.std.specs.Int.{int_min, int_max}
use Rattle.vcm_num.specs.declared.point.Point.{Point}
use Rattle.vcm_num.specs.Point.{coordinate}
use Rattle.vcm_spec.specs.declared.workpiece.Block3.{Block3}
use Rattle.vcm_marks.specs.declared.mark.Mark.{Mark}
use Rattle.vcm_marks.specs.declared.mark.Mark.TheVariants.{Goes, Touches, Meets}
use Rattle.vcm_marks.specs.declared.mark.PlacedMark.{PlacedMark}
use Rattle.vcm_picture.specs.Sights.{Span}
use Rattle.vcm_picture.specs.Drawn.{drawn_at}

-- with one more coordinate
abbrev pub widened : Span → ℤ → Span
widened s z = record { low = int_min s.low z; high = int_max s.high z }

-- with both corners of a block
abbrev pub over_block : ℕ → Span → Block3 → Span
over_block k s b = widened (widened s (coordinate b.low k)) (coordinate b.high k)

-- with those of blocks
abbrev pub over_blocks : ℕ → Span → List Block3 → Span
over_blocks k s [] = s
over_blocks k s (b ∷ bs) = over_blocks k (over_block k s b) bs

-- with both ends of a piece
abbrev pub over_mark : ℕ → Span → Mark → Span
over_mark k s (Goes p) = widened (widened s (coordinate (drawn_at p.from) k)) (coordinate (drawn_at p.to) k)
over_mark k s (Touches t) = s
over_mark k s (Meets c) = s

-- with both ends of all pieces
abbrev pub over_marks : ℕ → Span → List PlacedMark → Span
over_marks k s [] = s
over_marks k s (m ∷ ms) = over_marks k (over_mark k s m.mark) ms

-- a coordinate alone
abbrev pub single : ℤ → Span
single z = record { low = z; high = z }

-- a block alone
abbrev pub of_block : ℕ → Block3 → Span
of_block k b = widened (single (coordinate b.low k)) (coordinate b.high k)

-- of home, the position at the end, the blocks and the pieces
abbrev pub span_of_all : ℕ → Point → Point → List Block3 → List PlacedMark → Span
span_of_all k home position blocks marks =
    over_marks k (over_blocks k (widened (single (coordinate (drawn_at home) k)) (coordinate (drawn_at position) k)) blocks) marks

-- what a picture shows of an axis: all of these; of a close one the blocks alone, unless there are none
abbrev pub span_of : ℕ → Bool → Point → Point → List Block3 → List PlacedMark → Span
span_of k is_close home position [] marks = span_of_all k home position [] marks
span_of k is_close home position (b ∷ bs) marks =
    if is_close then over_blocks k (of_block k b) (b ∷ bs)
    else span_of_all k home position (b ∷ bs) marks
