-- The whole picture.
use Rattle.std.specs.Prelude.{ℕ, ℤ, pos, ◌+ℤ◌, ◌-ℤ◌, ◌*ℤ◌, Bool, nat_eq, if◌then◌else◌, List, [], ◌∷◌, ◌++◌, flat_map, length, codes}
use Rattle.std.specs.Fmt.{signed_decimal}
use Rattle.std.specs.Int.{int_div_euclid}
use Rattle.vcm_num.specs.declared.point.Point.{Point}
use Rattle.vcm_num.specs.Point.{coordinate}
use Rattle.vcm_spec.specs.declared.workpiece.Block3.{Block3}
use Rattle.vcm_spec.specs.Workpiece.{Workpiece}
use Rattle.vcm_state.specs.Held.{Held}
use Rattle.vcm_marks.specs.declared.mark.PlacedMark.{PlacedMark}
use Rattle.vcm_svg.specs.Heading.{heading_text}
use Rattle.vcm_svg.specs.Legend.{legend_text, bar_text}
use Rattle.vcm_svg.specs.Notes.{notes_high, notes_text}
use Rattle.vcm_svg.specs.declared.outlines.Outline.TheVariants.{Rectangle}
use Rattle.vcm_svg.specs.Outlines.{outline_text}
use Rattle.vcm_svg.specs.Pieces.{joined}
use Rattle.vcm_svg.specs.Rect.{spot}
use Rattle.vcm_svg.specs.Shapes.{path}
use Rattle.vcm_svg.specs.Style.{style_text}
use Rattle.vcm_picture.specs.Sights.{Layout}
use Rattle.vcm_svg.specs.declared.rect.Spot.{Spot}
use Rattle.vcm_svg.specs.declared.shapes.Class.TheVariants as class
use Rattle.vcm_picture.specs.declared.view.View.{View}
use Rattle.vcm_picture.specs.declared.view.View.TheVariants.{Top, Front, Side}
use Rattle.vcm_picture.specs.Sights.{Window}
use Rattle.vcm_picture.specs.Drawing.{Scene, frame_of, scene, view_text}
use Rattle.vcm_picture.specs.Heading.{first_line}
use Rattle.vcm_picture.specs.Marks.{are_few, begin_elsewhere}
use Rattle.vcm_picture.specs.Span.{span_of}
use Rattle.vcm_picture.specs.View.{clip, scope_of}
use Rattle.vcm_picture.specs.Window.{window_of}

-- what a picture shows: the workpiece, the state at the end with its tables of names, the steps that were done, the marks of the way, how many
-- pieces were left out before them, whether it shows the blocks as large as they are, and lines of what wasn't tried
pub record Sheet : Type 0 where
  pub part : Workpiece
  pub held : Held
  pub done : ℕ
  pub marks : List PlacedMark
  pub left_out : ℕ
  pub is_close : Bool
  pub untried : List (List ℕ)

-- a sheet of these
abbrev pub sheet : Workpiece → Held → ℕ → List PlacedMark → ℕ → Bool → List (List ℕ) → Sheet
sheet part held done marks left_out is_close untried = record {
  part = part;
  held = held;
  done = done;
  marks = marks;
  left_out = left_out;
  is_close = is_close;
  untried = untried;
}

-- the window round these points, blocks and marks
abbrev pub window_for : Bool → Point → Point → List Block3 → List PlacedMark → Window
window_for is_close home position blocks marks =
    window_of (span_of 0 is_close home position blocks marks) (span_of 1 is_close home position blocks marks)
    (span_of 2 is_close home position blocks marks)

-- the window of a picture
abbrev pub window_round : Workpiece → Held → List PlacedMark → Bool → Window
window_round part held marks is_close = window_for is_close part.bounds.home held.state.position part.blocks marks

-- how many units the heading is high: it has two lines, and a third where pieces are left out
abbrev pub heading_high : ℕ → ℤ
heading_high left_out = if nat_eq left_out 0 then pos 82 else pos 100

-- how many units the top view stands below the upper edge: what wasn't tried stands between
abbrev pub above : ℕ → List (List ℕ) → ℤ
above left_out untried = heading_high left_out +ℤ notes_high untried

-- how many units below the upper edge the first line of what wasn't tried stands
abbrev pub below_heading : ℕ → ℕ
below_heading left_out = if nat_eq left_out 0 then 56 else 74

-- how wide an axis is in units of the picture
abbrev pub units : Window → ℕ → ℤ
units w k = int_div_euclid (coordinate w.full k) w.grain

-- a layout of these numbers
abbrev pub laid_out : ℤ → ℤ → ℤ → ℤ → ℤ → ℤ → Layout
laid_out left top front side wide high = record {
  left = left;
  top = top;
  front = front;
  side = side;
  wide = wide;
  high = high;
}

-- where the parts of a picture stand, and its size, of this unit, height of the heading and widths of the axes
abbrev pub layout_with : ℤ → ℤ → ℤ → ℤ → ℤ → Layout
layout_with u up wide deep high =
    laid_out (pos 20 *ℤ u) (up *ℤ u) (up *ℤ u +ℤ deep +ℤ pos 30 *ℤ u) (pos 20 *ℤ u +ℤ wide +ℤ pos 30 *ℤ u)
    (pos 20 *ℤ u +ℤ wide +ℤ pos 30 *ℤ u +ℤ deep +ℤ pos 20 *ℤ u) (up *ℤ u +ℤ deep +ℤ pos 30 *ℤ u +ℤ high +ℤ pos 50 *ℤ u)

-- the layout of a window
abbrev pub layout_of : Window → ℤ → Layout
layout_of w up = layout_with w.unit up (units w 0) (units w 1) (units w 2)

-- the head: the size of the picture, and its title
abbrev pub head_text : Layout → ℤ → List ℕ → List ℕ
head_text l u first =
    joined (codes "<svg xmlns=\"http://www.w3.org/2000/svg\" viewBox=\"0 0 " ∷ signed_decimal l.wide ∷ codes " " ∷ signed_decimal l.high
    ∷ codes "\" width=\"" ∷ signed_decimal (int_div_euclid l.wide u) ∷ codes "\" height=\"" ∷ signed_decimal (int_div_euclid l.high u)
    ∷ codes "\">\n<title>" ∷ first ∷ codes "</title>\n" ∷ [])

-- the views, in the order in which they are drawn
abbrev pub views : List View
views = Top ∷ Front ∷ Side ∷ []

-- the clip path of a view
abbrev pub clip_text : Window → View → List ℕ
clip_text w v =
    joined (codes "<clipPath id=\"v" ∷ clip v ∷ codes "\"><path d=\"" ∷ [])
    ++ (outline_text (frame_of (scope_of w v)) ++ codes "\"/></clipPath>\n")

-- the clip paths of some views
abbrev pub clips_text : Window → List View → List ℕ
clips_text w vs = flat_map (clip_text w) vs

-- the clip paths, and the background
abbrev pub background_text : Window → Layout → List ℕ
background_text w l = clips_text w views ++ path class.Sheet (Rectangle (spot (pos 0) (pos 0)) l.wide l.high)

-- where a view stands: the front view below the top view, the right side view beside the front view
abbrev pub view_spot : Layout → View → Spot
view_spot l Top = spot l.left l.top
view_spot l Front = spot l.left l.front
view_spot l Side = spot l.side l.front

-- a view at its place
abbrev pub view_at : Window → Layout → Scene → List PlacedMark → View → List ℕ
view_at w l s marks v = view_text (scope_of w v) (view_spot l v) s marks

-- views, each at its place
abbrev pub views_text : Window → Layout → Scene → List PlacedMark → List View → List ℕ
views_text w l s marks vs = flat_map (view_at w l s marks) vs

-- where the legend stands
abbrev pub legend_spot : Layout → ℤ → Spot
legend_spot l u = spot l.side (l.top +ℤ pos 8 *ℤ u)

-- where the bar stands
abbrev pub bar_place : Layout → ℤ → Spot
bar_place l u = spot l.left (l.high -ℤ pos 28 *ℤ u)

-- the legend, the bar and the end
abbrev pub foot_text : Window → Layout → List ℕ
foot_text w l =
    legend_text (legend_spot l w.unit) w.unit ++ (bar_text (bar_place l w.unit) w.unit w.grain (units w 0) ++ codes "</svg>\n")

-- the heading, and what wasn't tried below it
abbrev pub headings_text : Window → Layout → List ℕ → Point → ℕ → List PlacedMark → ℕ → List (List ℕ) → List ℕ
headings_text w l first position done marks left_out untried =
    heading_text w.unit first position done left_out
    ++ notes_text w.unit (below_heading left_out) untried (legend_spot l w.unit) (begin_elsewhere marks)

-- a picture of these, with this window, layout and first line of the heading
abbrev pub picture_of : Workpiece → Held → ℕ → List PlacedMark → ℕ → List (List ℕ) → Window → Layout → List ℕ → List ℕ
picture_of part held done marks left_out untried w l first =
    head_text l w.unit first
    ++ (style_text w.unit (length part.blocks) (are_few marks)
    ++ (background_text w l
    ++ (headings_text w l first held.state.position done marks left_out untried ++ (views_text w l (scene part held first) marks views ++ foot_text w l))))

-- the same of a sheet
abbrev pub picture_with : Sheet → Window → Layout → List ℕ → List ℕ
picture_with s w l first = picture_of s.part s.held s.done s.marks s.left_out s.untried w l first

-- the bytes of a picture
abbrev pub picture_text : Sheet → List ℕ
picture_text s =
    let w = window_round s.part s.held s.marks s.is_close in
    picture_with s w (layout_of w (above s.left_out s.untried)) (first_line s.held.tables s.held.state.stop s.done)
