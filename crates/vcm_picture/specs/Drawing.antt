-- A view, drawn.
use Rattle.std.specs.Prelude.{ℕ, ℤ, pos, ◌+ℤ◌, ◌-ℤ◌, ◌*ℤ◌, List, [], ◌∷◌, ◌++◌, flat_map, Option, Some, None, option_to_list, codes}
use Rattle.std.specs.Fmt.{signed_decimal}
use Rattle.vcm_num.specs.declared.point.Point.{Point}
use Rattle.vcm_spec.specs.declared.workpiece.Block3.{Block3}
use Rattle.vcm_spec.specs.declared.workpiece.Bounds.{Bounds}
use Rattle.vcm_spec.specs.Workpiece.{Workpiece}
use Rattle.vcm_state.specs.Held.{Held}
use Rattle.vcm_marks.specs.declared.mark.Contact.{Contact}
use Rattle.vcm_marks.specs.declared.mark.PlacedMark.{PlacedMark}
use Rattle.vcm_svg.specs.declared.outlines.Outline.{Outline}
use Rattle.vcm_svg.specs.declared.outlines.Outline.TheVariants as outline
use Rattle.vcm_svg.specs.declared.rect.Rect.{Rect}
use Rattle.vcm_svg.specs.declared.rect.Spot.{Spot}
use Rattle.vcm_svg.specs.declared.shapes.Class.TheVariants as class
use Rattle.vcm_svg.specs.declared.shapes.Placement.{Placement}
use Rattle.vcm_svg.specs.declared.shapes.Lettering.TheVariants as lettering
use Rattle.vcm_svg.specs.Pieces.{joined}
use Rattle.vcm_svg.specs.Rect.{spot}
use Rattle.vcm_svg.specs.Shapes.{label, path, text}
use Rattle.vcm_picture.specs.declared.names.FirstNames.{FirstNames}
use Rattle.vcm_picture.specs.declared.names.Named.{Named}
use Rattle.vcm_picture.specs.declared.shapes.Shape.{Shape}
use Rattle.vcm_picture.specs.declared.shapes.Shape.TheVariants.{Text}
use Rattle.vcm_picture.specs.declared.shapes.Words.{Words}
use Rattle.vcm_picture.specs.declared.shapes.Words.TheVariants as words
use Rattle.vcm_picture.specs.declared.shown.Face.{Face}
use Rattle.vcm_picture.specs.declared.shown.Seen.{Seen}
use Rattle.vcm_picture.specs.Sights.{Scope}
use Rattle.vcm_picture.specs.declared.view.View.{View}
use Rattle.vcm_picture.specs.Blocks.{blocks_shapes}
use Rattle.vcm_picture.specs.Marks.{contact_of}
use Rattle.vcm_picture.specs.Names.{first_names, with_first, all_figure_boxes, with_all_touched}
use Rattle.vcm_picture.specs.Shapes.{shapes_text}
use Rattle.vcm_picture.specs.Shown.{faces_from, all_seen}
use Rattle.vcm_picture.specs.View.{title, clip}
use Rattle.vcm_picture.specs.Way.{way_shapes}

-- what a view shows besides the way: the workpiece, the state at the end with its tables of names, and the first line of the heading
pub record Scene : Type 0 where
  pub part : Workpiece
  pub held : Held
  pub stopped : List ℕ

-- a workpiece, a state and a first line
abbrev pub scene : Workpiece → Held → List ℕ → Scene
scene part held stopped = record { part = part; held = held; stopped = stopped }

-- where a name stands in its box
abbrev pub name_label : Rect → ℤ → Placement
name_label a u = label lettering.Name u (spot a.left (a.top +ℤ pos 8 *ℤ u))

-- a name in its box, if it has one
abbrev pub name_shape : Option Rect → ℤ → Words → Option Shape
name_shape None u w = None
name_shape (Some a) u w = Some (Text (name_label a u) w)

-- the name of the contact in its box, if it has one
abbrev pub contact_name : Option Rect → ℤ → Option Contact → Option Shape
contact_name a u None = None
contact_name a u (Some c) = name_shape a u (words.Block c.block)

-- the names of the contact, of the end and of home
abbrev pub first_shapes : ℤ → Option Contact → FirstNames → List (Option Shape)
first_shapes u c f = contact_name f.contact u c ∷ name_shape f.end u words.End ∷ name_shape f.home u words.Home ∷ []

-- the name of a touched point
abbrev pub feature_name : ℤ → Named → Shape
feature_name u n = Text (name_label n.area u) (words.Feature n.feature)

-- the names of the touched points
abbrev pub feature_shapes : ℤ → List Named → List Shape
feature_shapes u named = flat_map (λ n. feature_name u n ∷ []) named

-- the names of the touched points that find room beside what is taken
abbrev pub names_beside : Scope → List (List ℕ) → List PlacedMark → List Rect → List Named
names_beside s features marks taken = (with_all_touched s features marks (record { taken = taken; named = [] })).named

-- the names of a view, beside the numbers of its blocks
abbrev pub names_with : Scope → List (List ℕ) → List PlacedMark → List Seen → FirstNames → List Shape
names_with s features marks seen first =
    flat_map option_to_list (first_shapes s.unit (contact_of marks) first)
    ++ feature_shapes s.unit (names_beside s features marks (with_first [] first ++ all_figure_boxes seen))

-- the names of a view with this home, these names and this position
abbrev pub names_shapes : Scope → Point → List (List ℕ) → Point → List PlacedMark → List Seen → List Shape
names_shapes s home features position marks seen = names_with s features marks seen (first_names s (contact_of marks) position home [])

-- the shapes of a view of these blocks
abbrev pub shapes_of : Scope → Bounds → List (List ℕ) → Point → List PlacedMark → List Face → List Seen → List Shape
shapes_of s bounds features position marks faces seen =
    blocks_shapes faces seen (contact_of marks)
    ++ (way_shapes s bounds position marks ++ names_shapes s bounds.home features position marks seen)

-- the shapes of a view of these blocks, limits, names and marks, with this position at the end
abbrev pub view_shapes : Scope → List Block3 → Bounds → List (List ℕ) → Point → List PlacedMark → List Shape
view_shapes s blocks bounds features position marks =
    let faces = faces_from s 1 blocks in shapes_of s bounds features position marks faces (all_seen s.unit faces)

-- the same of a scene
abbrev pub scene_shapes : Scope → Scene → List PlacedMark → List Shape
scene_shapes s scene marks = view_shapes s scene.part.blocks scene.part.bounds scene.held.tables.features scene.held.state.position marks

-- where the title of a view stands, at a place of the picture
abbrev pub title_label : Spot → ℤ → Placement
title_label at u = label lettering.Plain u (spot at.x (at.y -ℤ pos 6 *ℤ u))

-- the beginning of the group of a view at a place of the picture
abbrev pub group_text : View → Spot → List ℕ
group_text v at =
    joined (codes "<g transform=\"matrix(1 0 0 1 " ∷ signed_decimal at.x ∷ codes " " ∷ signed_decimal at.y ∷ codes ")\" clip-path=\"url(#v"
    ∷ clip v ∷ codes ")\">\n" ∷ [])

-- the frame of a view
abbrev pub frame_of : Scope → Outline
frame_of s = outline.Rectangle (spot (pos 0) (pos 0)) s.wide s.high

-- the title of a view, and the beginning of its group at a place of the picture, with its frame
abbrev pub view_front : Scope → Spot → List ℕ
view_front s at =
    text (title_label at s.unit) (joined (title s.view ∷ []))
    ++ (group_text s.view at ++ path class.Frame (frame_of s))

-- a view at a place of the picture
abbrev pub view_text : Scope → Spot → Scene → List PlacedMark → List ℕ
view_text s at scene marks =
    view_front s at ++ (shapes_text scene.held.tables.features scene.stopped (scene_shapes s scene marks) ++ codes "</g>\n")
