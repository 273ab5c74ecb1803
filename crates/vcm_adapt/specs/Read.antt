-- What a reader of programs sees of lines that are put otherwise.
use Rattle.std.specs.Prelude.{◌≡◌, ℕ, ◌||◌, Bool, true, false, List, [], ◌∷◌}
use Rattle.std.specs.List.{list_any}
use Rattle.vcm_lines.specs.Segments.{Segment, Comment, segments_of, is_open}
use Rattle.vcm_adapt.specs.declared.edit.Edit.{Edit}
use Rattle.vcm_adapt.specs.declared.edit.Edit.TheVariants.{Keep, LeaveOut, Put}

-- the segment is a comment
abbrev pub is_comment : Segment → Bool
is_comment (Comment t) = true
is_comment _ = false

-- the segment is a comment, or a text that isn't closed
abbrev pub is_loose : Segment → Bool
is_loose s = is_open s || is_comment s

-- what is put has its texts closed, and no comment
abbrev pub IsClosed : Edit → Type 0
IsClosed (Put new) = list_any is_loose (segments_of new) ≡ false
IsClosed _ = Unit {0}

-- so it is with each of these
abbrev pub AreClosed : List Edit → Type 0
AreClosed [] = Unit {0}
AreClosed (e ∷ es) = IsClosed e × AreClosed es

-- what is left of a line where comments are taken away
abbrev pub seen : Edit → List ℕ → List ℕ
seen Keep line = line
seen LeaveOut line = []
seen (Put new) line = new

-- what is left of lines
abbrev pub seen_lines : List Edit → List (List ℕ) → List (List ℕ)
seen_lines [] ls = ls
seen_lines (e ∷ es) [] = []
seen_lines (e ∷ es) (l ∷ ls) = seen e l ∷ seen_lines es ls
