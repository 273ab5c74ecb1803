-- What the heading of a sheet says, a line after another.
use Rattle.std.specs.Prelude.{ℕ, pos, ◌*ℤ◌, nat_eq, Bool, true, false, if◌then◌else◌, List, [], ◌∷◌, flat_map, take, Option, Some, None, decimal, codes}
use Rattle.vcm_num.specs.declared.point.Point.{Point}
use Rattle.vcm_num.specs.Texts.{thousandths}
use Rattle.vcm_marks.specs.declared.mark.Contact.{Contact}
use Rattle.vcm_svg.specs.Pieces.{point_text}
use Rattle.vcm_sheet.specs.declared.lines.Lines.{Lines}
use Rattle.vcm_sheet.specs.Sayings.{Saying, say}
use Rattle.vcm_sheet.specs.Written.{gap_before, name_of, written}

-- the files of the program and of the part, and the tip's diameter
abbrev pub files_line : List ℕ → List ℕ → ℕ → List Saying
files_line program part tip =
    say (codes "program " ∷ written program ∷ codes "  part " ∷ written part ∷ codes "  tip &#8960; " ∷ thousandths (pos 2 *ℤ pos tip) ∷ codes " mm" ∷ []) ∷ []

-- why the run stopped, or after how many steps it didn't, of a run whose end is drawn or isn't
abbrev pub stop_line : Bool → List ℕ → List Saying
stop_line true stopped = say (stopped ∷ []) ∷ []
stop_line false stopped = say (codes "the run ends elsewhere: " ∷ stopped ∷ []) ∷ []

-- the position and the steps, if the end is drawn
abbrev pub position_line : Bool → Point → ℕ → List Saying
position_line false position done = []
position_line true position done = say (codes "position " ∷ point_text position ∷ codes "  steps " ∷ decimal done ∷ []) ∷ []

-- the source lines, if not all are shown
abbrev pub lines_line : Lines → List Saying
lines_line l =
    if nat_eq l.first 0 then [] else say (codes "the way of lines " ∷ decimal l.first ∷ codes " to " ∷ decimal l.last ∷ []) ∷ []

-- where the contact is, and with which block
abbrev pub contact_words : Contact → List ℕ → Saying
contact_words c name =
    say (codes "contact of the tip's centre at " ∷ point_text c.at ∷ codes " with block " ∷ decimal c.block ∷ gap_before name ∷ name ∷ [])

-- the contact, if there is one
abbrev pub contact_line : List (List ℕ) → Option Contact → List Saying
contact_line names None = []
contact_line names (Some c) = contact_words c (written (name_of names c.block)) ∷ []

-- the pieces that are left out, if there are any
abbrev pub left_out_line : ℕ → List Saying
left_out_line n =
    if nat_eq n 0 then [] else say (codes "the first " ∷ decimal n ∷ codes " pieces of the way are left out" ∷ []) ∷ []

-- a line of what wasn't tried
abbrev pub note_line : List ℕ → List Saying
note_line line = say (written line ∷ []) ∷ []

-- lines of what wasn't tried, the first 40 of them
abbrev pub untried_lines : List (List ℕ) → List Saying
untried_lines lines = flat_map note_line (take 40 lines)
