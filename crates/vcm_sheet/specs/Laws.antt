-- Statements about the definitions, which the laws prove.
use Rattle.std.specs.Prelude.{◌≡◌, ℤ, pos, ◌+ℤ◌, List, [], ◌∷◌, ◌++◌, map, ⊤}
use Rattle.std.specs.List.{AllByRecursion}
use Rattle.vcm_svg.specs.declared.rect.Rect.{Rect}
use Rattle.vcm_picture.specs.Sights.{Scope}
use Rattle.vcm_picture.specs.Laws.{StandApart}
use Rattle.vcm_picture.specs.View.{spot_of}
use Rattle.vcm_marks.specs.declared.mark.Mark.{Mark}
use Rattle.vcm_marks.specs.declared.mark.Mark.TheVariants.{Goes, Touches, Meets}
use Rattle.vcm_marks.specs.declared.mark.PlacedMark.{PlacedMark}
use Rattle.vcm_marks.specs.declared.mark.Touched.{Touched}
use Rattle.vcm_sheet.specs.declared.points.Pointed.{Pointed}
use Rattle.vcm_sheet.specs.Numbers.{numbers_beside}
use Rattle.vcm_sheet.specs.Points.{all_points}

-- the boxes of numbers lie in the width of the view, and meet neither what is taken nor one another
abbrev pub NumbersAreApart : Type 0
NumbersAreApart =
    (s : Scope) (points : List Pointed) (taken : List Rect) → StandApart s.wide taken (map (λ n. n.area) (numbers_beside s points taken))

-- each number stands where its point does
abbrev pub NumbersStandThere : Type 0
NumbersStandThere =
    (s : Scope) (points : List Pointed) (taken : List Rect)
    → AllByRecursion (λ n. n.at ≡ spot_of s n.point.touched.at) (numbers_beside s points taken)

-- the touched point of a mark, if it is one
abbrev pub touched_of : Mark → List Touched
touched_of (Goes p) = []
touched_of (Touches t) = t ∷ []
touched_of (Meets c) = []

-- the touched points of marks
abbrev pub touched_in : List PlacedMark → List Touched
touched_in [] = []
touched_in (m ∷ ms) = touched_of m.mark ++ touched_in ms

-- each touched point of a way has a number, once, in the order of the run
abbrev pub PointsHaveNumbers : Type 0
PointsHaveNumbers = (marks : List PlacedMark) → map (λ p. p.touched) (all_points marks) ≡ touched_in marks

-- points whose numbers go up by 1, from one on
abbrev pub IsCounted : ℤ → List Pointed → Type 0
IsCounted n [] = ⊤
IsCounted n (p ∷ ps) = (p.number ≡ n) × IsCounted (n +ℤ pos 1) ps

-- these are 1, 2, 3 and so on
abbrev pub NumbersAreCounted : Type 0
NumbersAreCounted = (marks : List PlacedMark) → IsCounted (pos 1) (all_points marks)
