-- The shapes of a view of a sheet, and what a view says.
use Rattle.std.specs.Prelude.{ℕ, ℤ, pos, ◌+ℤ◌, ◌-ℤ◌, ◌*ℤ◌, ◌-◌, nat_eq, Bool, true, false, not, ◌&&◌, ◌||◌, if◌then◌else◌, List, [], ◌∷◌, ◌++◌, length, filter, flat_map, Option, Some, None, option_to_list, decimal, codes}
use Rattle.std.specs.Fmt.{signed_decimal}
use Rattle.vcm_spec.specs.Workpiece.{Workpiece}
use Rattle.vcm_state.specs.Held.{Held}
use Rattle.vcm_marks.specs.declared.mark.PlacedMark.{PlacedMark}
use Rattle.vcm_svg.specs.declared.outlines.Outline.{Outline}
use Rattle.vcm_svg.specs.declared.outlines.Outline.TheVariants.{Circle}
use Rattle.vcm_svg.specs.declared.rect.Rect.{Rect}
use Rattle.vcm_svg.specs.declared.shapes.Placement.{Placement}
use Rattle.vcm_svg.specs.Pieces.{joined}
use Rattle.vcm_svg.specs.Rect.{spot}
use Rattle.vcm_picture.specs.declared.shapes.Shape.{Shape}
use Rattle.vcm_picture.specs.declared.shapes.Shape.TheVariants.{Path, Told, Text}
use Rattle.vcm_picture.specs.declared.shapes.Tip.{Tip}
use Rattle.vcm_picture.specs.declared.shapes.Tip.TheVariants as tip
use Rattle.vcm_picture.specs.declared.shapes.Words.{Words}
use Rattle.vcm_picture.specs.declared.shapes.Words.TheVariants as words
use Rattle.vcm_picture.specs.Drawing.{scene, scene_shapes}
use Rattle.vcm_picture.specs.Shapes.{shapes_text}
use Rattle.vcm_picture.specs.Sights.{Scope}
use Rattle.vcm_picture.specs.View.{right_axis, up_axis, title}
use Rattle.vcm_sheet.specs.declared.numbers.Numbered.{Numbered}
use Rattle.vcm_sheet.specs.declared.points.Pointed.{Pointed}
use Rattle.vcm_sheet.specs.Numbers.{numbers_beside}
use Rattle.vcm_sheet.specs.Sayings.{Saying, WordsAt, Pictured, say}
use Rattle.vcm_sheet.specs.Ticks.{kept, Ticking, axis_of, ticks_said}

-- whether words are the name of a feature
abbrev pub is_feature : Words → Bool
is_feature (words.Feature i) = true
is_feature _ = false

-- whether a shape is
abbrev pub is_name : Shape → Bool
is_name (Path c o) = false
is_name (Told c o t) = false
is_name (Text l w) = is_feature w

-- whether words are the name of the end
abbrev pub names_end : Words → Bool
names_end words.End = true
names_end _ = false

-- whether a tooltip tells of the end
abbrev pub tells_end : Tip → Bool
tells_end (tip.End p) = true
tells_end tip.TipAtEnd = true
tells_end _ = false

-- whether a shape is of the end: its circle, the tip there, or its name
abbrev pub is_end : Shape → Bool
is_end (Path c o) = false
is_end (Told c o t) = tells_end t
is_end (Text l w) = names_end w

-- whether a sheet shows a shape: no name of a feature, and those of the end where that is drawn
abbrev pub is_kept : Bool → Shape → Bool
is_kept is_drawn x = not (is_name x) && (is_drawn || not (is_end x))

-- of shapes those
abbrev pub kept_shapes : Bool → List Shape → List Shape
kept_shapes is_drawn shapes = filter (is_kept is_drawn) shapes

-- how many letters words have
abbrev pub letters_in : Words → ℤ
letters_in (words.Number n) = pos (length (decimal n))
letters_in (words.Block n) = pos (length (decimal n)) +ℤ pos 6
letters_in words.End = pos 3
letters_in words.Home = pos 4
letters_in (words.Feature i) = pos 0

-- the box of a text: 6 units wide for each letter, and 9 units high
abbrev pub text_box : Placement → Words → Rect
text_box l w = record {
  left = l.at.x;
  top = kept (l.at.y -ℤ kept (l.size *ℤ pos 8));
  right = kept (l.at.x +ℤ kept (l.size *ℤ kept (letters_in w *ℤ pos 6)));
  bottom = kept (l.at.y +ℤ l.size);
}

-- the box of a circle
abbrev pub circle_box : Outline → Option Rect
circle_box (Circle at radius wide) =
    Some (record { left = at.x; top = kept (at.y -ℤ radius); right = kept (at.x +ℤ wide); bottom = kept (at.y +ℤ radius) })
circle_box _ = None

-- the box of a touched point
abbrev pub point_box : Tip → Outline → Option Rect
point_box (tip.Touched s t) o = circle_box o
point_box _ o = None

-- the box that a shape takes from the numbers, if it is a text or a touched point
abbrev pub box_of : Shape → Option Rect
box_of (Path c o) = None
box_of (Told c o t) = point_box t o
box_of (Text l w) = Some (text_box l w)

-- the boxes that are taken from the numbers
abbrev pub boxes_of : List Shape → List Rect
boxes_of shapes = flat_map (λ x. option_to_list (box_of x)) shapes

-- what a view shows: shapes, and the numbers of points
pub record Drawn : Type 0 where
  pub shapes : List Shape
  pub numbers : List Numbered

-- the shapes of a view of a workpiece, a state at the end and marks, where the end is drawn or isn't
abbrev pub shapes_at : Bool → Scope → Workpiece → Held → List PlacedMark → List Shape
shapes_at is_drawn s part held marks = kept_shapes is_drawn (scene_shapes s (scene part held []) marks)

-- the same with the numbers of points that find room beside its texts and its points
unfoldable pub drawn_at : Bool → Scope → Workpiece → Held → List PlacedMark → List Pointed → Drawn
drawn_at is_drawn s part held marks points = record {
  shapes = shapes_at is_drawn s part held marks;
  numbers = numbers_beside s points (boxes_of (shapes_at is_drawn s part held marks));
}

-- the number of a point, which begins 8 units below the upper left corner of its box
abbrev pub number_said : ℤ → Numbered → List Saying
number_said u n = WordsAt (spot n.area.left (n.area.top +ℤ pos 8 *ℤ u)) (joined (signed_decimal n.point.number ∷ [])) ∷ []

-- what is said of so many numbers
abbrev pub missing_words : ℕ → List ℕ
missing_words n = if nat_eq n 1 then codes " number has no room" else codes " numbers have no room"

-- how many of the numbers of points found no room in a view, if there are any
abbrev pub missing_line : ℕ → ℕ → List Saying
missing_line all some = if nat_eq (all - some) 0 then [] else say (decimal (all - some) ∷ missing_words (all - some) ∷ []) ∷ []

-- a view with these ticks and of so many points, whose features have these names, of a run with this first line of the heading
abbrev pub view_said : List (List ℕ) → List ℕ → Scope → Ticking → Drawn → ℕ → List Saying
view_said features stopped s ticks d points =
    missing_line points (length d.numbers)
    ++ (say (title s.view ∷ []) ∷ Pictured (shapes_text features stopped d.shapes)
    ∷ (flat_map (number_said s.unit) d.numbers ++ (ticks_said (axis_of ticks (right_axis s.view)) ++ ticks_said (axis_of ticks (up_axis s.view)))))
