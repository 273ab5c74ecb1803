-- Statements about the definitions, which the laws prove.
use Rattle.std.specs.Prelude.{◌≡◌, ℕ, ℤ, pos, ◌*ℤ◌, Bool, true, false, List, [], ◌∷◌, ◌++◌, map, filter, flat_map, Option, Some, None, option_to_list, IsTrue}
use Rattle.std.specs.Prelude.{⊤}
use Rattle.vcm_num.specs.declared.point.Point.{Point}
use Rattle.vcm_marks.specs.declared.mark.Contact.{Contact}
use Rattle.vcm_marks.specs.declared.mark.Mark.{Mark}
use Rattle.vcm_marks.specs.declared.mark.Mark.TheVariants.{Goes, Touches, Meets}
use Rattle.vcm_marks.specs.declared.mark.PlacedMark.{PlacedMark}
use Rattle.vcm_marks.specs.Pieces.{is_piece}
use Rattle.vcm_svg.specs.declared.outlines.Outline.{Outline}
use Rattle.vcm_svg.specs.declared.outlines.Outline.TheVariants.{Line}
use Rattle.vcm_svg.specs.declared.rect.Rect.{Rect}
use Rattle.vcm_svg.specs.Outlines.{circle, cross}
use Rattle.vcm_picture.specs.declared.names.FirstNames.{FirstNames}
use Rattle.vcm_picture.specs.declared.shapes.Shape.{Shape}
use Rattle.vcm_picture.specs.declared.shapes.Shape.TheVariants.{Path, Told, Text}
use Rattle.vcm_marks.specs.declared.mark.Moment.{Moment}
use Rattle.vcm_picture.specs.declared.shapes.Tip.{Tip}
use Rattle.vcm_picture.specs.declared.shapes.Tip.TheVariants as tip
use Rattle.vcm_picture.specs.declared.shown.Seen.{Seen}
use Rattle.vcm_picture.specs.Sights.{Scope}
use Rattle.vcm_picture.specs.Drawing.{Scene, scene_shapes, names_beside}
use Rattle.vcm_picture.specs.Marks.{contact_of}
use Rattle.vcm_picture.specs.Names.{is_free, first_names, with_first, all_figure_boxes}
use Rattle.vcm_picture.specs.Shapes.{step_of}
use Rattle.vcm_picture.specs.View.{spot_of}

-- boxes that were placed one after another: each lies in the width of the view, and meets none that was taken and none of those before it
abbrev pub StandApart : ℤ → List Rect → List Rect → Type 0
StandApart wide taken [] = ⊤
StandApart wide taken (a ∷ more) = IsTrue (is_free a wide taken) × StandApart wide (taken ++ a ∷ []) more

-- so stand the names of the contact, of the end and of home, and beside them and the numbers of the blocks those of touched points
abbrev pub AreNamesApart : Scope → List (List ℕ) → List PlacedMark → List Seen → FirstNames → Type 0
AreNamesApart s features marks seen first =
    StandApart s.wide [] (with_first [] first)
    × StandApart s.wide (with_first [] first ++ all_figure_boxes seen)
    (map (λ n. n.area) (names_beside s features marks (with_first [] first ++ all_figure_boxes seen)))

-- no two names of a view overlap
abbrev pub NamesAreApart : Type 0
NamesAreApart =
    (s : Scope) (contact : Option Contact) (position home : Point) (features : List (List ℕ)) (marks : List PlacedMark) (seen : List Seen)
    → AreNamesApart s features marks seen (first_names s contact position home [])

-- a mark that is drawn: its step, where the tooltip tells it, itself, and its outline
abbrev pub DrawnMark : Type 0
DrawnMark = Option Moment × Mark × Outline

-- the mark that a tooltip tells
abbrev pub mark_told : Outline → Tip → Option DrawnMark
mark_told o (tip.Leg s p) = Some (Some s, Goes p, o)
mark_told o (tip.Touched s t) = Some (Some s, Touches t, o)
mark_told o (tip.Contact c) = Some (None, Meets c, o)
mark_told o _ = None

-- the mark that a shape tells
abbrev pub mark_drawn : Shape → Option DrawnMark
mark_drawn (Path c o) = None
mark_drawn (Told c o t) = mark_told o t
mark_drawn (Text l w) = None

-- the marks that shapes tell, in their order
abbrev pub marks_drawn : List Shape → List DrawnMark
marks_drawn shapes = flat_map (λ x. option_to_list (mark_drawn x)) shapes

-- the outline of a mark at its place: of a piece the line between its ends, of a touched point a circle of three units, of the contact a cross of six
abbrev pub outline_of : Scope → Mark → Outline
outline_of s (Goes p) = Line (spot_of s p.from) (spot_of s p.to)
outline_of s (Touches t) = circle (spot_of s t.at) (pos 3 *ℤ s.unit)
outline_of s (Meets c) = cross (spot_of s c.at) (pos 6 *ℤ s.unit)

-- a mark of the way, drawn at its place
abbrev pub drawn_of : Scope → PlacedMark → DrawnMark
drawn_of s m = (Some (step_of m), m.mark, outline_of s m.mark)

-- the contact, drawn at its place
abbrev pub contact_drawn : Scope → Contact → DrawnMark
contact_drawn s c = (None, Meets c, outline_of s (Meets c))

-- whether a mark is a touched point
abbrev pub touches : Mark → Bool
touches (Goes p) = false
touches (Touches t) = true
touches (Meets c) = false

-- each view draws each piece, each touched point and the contact once, at its place, and no other mark
abbrev pub MarksAreDrawn : Type 0
MarksAreDrawn =
    (s : Scope) (scene : Scene) (marks : List PlacedMark)
    → marks_drawn (scene_shapes s scene marks)
    ≡ map (drawn_of s) (filter (λ m. is_piece m.mark) marks)
    ++ (map (drawn_of s) (filter (λ m. touches m.mark) marks) ++ map (contact_drawn s) (option_to_list (contact_of marks)))
