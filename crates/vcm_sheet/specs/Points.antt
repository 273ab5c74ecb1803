-- The touched points of a way, with their numbers.
use Rattle.std.specs.Prelude.{pos, ◌+ℤ◌, List, [], ◌∷◌, ◌++◌, length, filter}
use Rattle.vcm_marks.specs.declared.mark.Mark.{Mark}
use Rattle.vcm_marks.specs.declared.mark.Mark.TheVariants.{Goes, Touches, Meets}
use Rattle.vcm_marks.specs.declared.mark.PlacedMark.{PlacedMark}
use Rattle.vcm_picture.specs.Shapes.{step_of}
use Rattle.vcm_sheet.specs.declared.lines.Lines.{Lines}
use Rattle.vcm_sheet.specs.declared.points.Pointed.{Pointed}
use Rattle.vcm_sheet.specs.Lines.{has_line}

-- points with that of a mark, if it is one: its number is how many there are with it
abbrev pub with_point : List Pointed → PlacedMark → Mark → List Pointed
with_point ps m (Goes p) = ps
with_point ps m (Touches t) = ps ++ record { number = pos (length ps) +ℤ pos 1; step = step_of m; touched = t } ∷ []
with_point ps m (Meets c) = ps

-- points with those of marks
abbrev pub with_points : List Pointed → List PlacedMark → List Pointed
with_points ps [] = ps
with_points ps (m ∷ ms) = with_points (with_point ps m m.mark) ms

-- the touched points of a way, in the order of the run
abbrev pub all_points : List PlacedMark → List Pointed
all_points marks = with_points [] marks

-- of these points those of the statements on some lines
abbrev pub points_on : Lines → List PlacedMark → List Pointed
points_on l marks = filter (λ p. has_line l p.step.line) (all_points marks)
