-- Source lines.
use Rattle.std.specs.Prelude.{ℕ, ◌&&◌, ◌||◌, nat_eq, nat_le, Bool, false, List, [], ◌∷◌, filter}
use Rattle.vcm_marks.specs.declared.mark.PlacedMark.{PlacedMark}
use Rattle.vcm_sheet.specs.declared.lines.Lines.{Lines}

-- whether a line is among some, the first and the last among them
abbrev pub has_line : Lines → ℕ → Bool
has_line l n = nat_le l.first n && nat_le n l.last

-- the marks of the statements on some lines
abbrev pub marks_on : Lines → List PlacedMark → List PlacedMark
marks_on l marks = filter (λ m. has_line l m.line) marks

-- whether the last of some marks comes from one of some lines; where there is no mark, this
abbrev pub last_on : Lines → Bool → List PlacedMark → Bool
last_on l before [] = before
last_on l before (m ∷ ms) = last_on l (has_line l m.line) ms

-- whether the end of a way with these marks is drawn: with all lines it is, and else if the last mark comes from one of them
abbrev pub draws_end : Lines → List PlacedMark → Bool
draws_end l marks = nat_eq l.first 0 || last_on l false marks
