-- The marks that the shapes of a view tell.
use Rattle.std.proofs.Common.{◌≡◌, ◌∙◌, sym, ap, ap₂, refl, ℕ, ℤ, Bool, true, false, cond, List, [], ◌∷◌, ◌++◌, ◌-◌, map, filter, flat_map, append_assoc}
use Rattle.std.proofs.Common.{append-nil, option_to_list, option_map, slice_get, Some, None, if◌then◌else◌}
use Rattle.std.specs.Prelude.{Option}
use Rattle.vcm_num.specs.declared.point.Point.{Point}
use Rattle.vcm_spec.specs.declared.workpiece.Bounds.{Bounds}
use Rattle.vcm_marks.specs.declared.mark.Contact.{Contact}
use Rattle.vcm_marks.specs.declared.mark.Mark.{Mark}
use Rattle.vcm_marks.specs.declared.mark.Mark.TheVariants.{Goes, Touches, Meets}
use Rattle.vcm_marks.specs.declared.mark.PlacedMark.{PlacedMark}
use Rattle.vcm_marks.specs.Pieces.{is_piece}
use Rattle.vcm_svg.specs.declared.rect.Rect.{Rect}
use Rattle.vcm_svg.specs.declared.shapes.Class.TheVariants as class
use Rattle.vcm_svg.specs.Outlines.{rect_outline}
use Rattle.vcm_picture.specs.declared.names.FirstNames.{FirstNames}
use Rattle.vcm_picture.specs.declared.names.Named.{Named}
use Rattle.vcm_picture.specs.declared.shapes.Shape.{Shape}
use Rattle.vcm_picture.specs.declared.shapes.Shape.TheVariants.{Path}
use Rattle.vcm_picture.specs.declared.shapes.Tip.TheVariants as tip
use Rattle.vcm_picture.specs.declared.shapes.Words.{Words}
use Rattle.vcm_picture.specs.declared.shapes.Words.TheVariants as words
use Rattle.vcm_picture.specs.declared.shown.Face.{Face}
use Rattle.vcm_picture.specs.declared.shown.Seen.{Seen}
use Rattle.vcm_picture.specs.declared.shown.Shown.{Shown}
use Rattle.vcm_picture.specs.declared.shown.Shown.TheVariants.{Repeated, Hidden, Open}
use Rattle.vcm_picture.specs.Sights.{Scope}
use Rattle.vcm_picture.specs.Blocks.{open_shape, hidden_shape, hit_shape, number_shape, open_shapes, hidden_shapes, number_shapes, blocks_shapes}
use Rattle.vcm_picture.specs.Drawing.{name_shape, contact_name, first_shapes, feature_shapes, names_beside, names_shapes, shapes_of}
use Rattle.vcm_picture.specs.Laws.{DrawnMark, mark_drawn, marks_drawn, outline_of, drawn_of, contact_drawn, touches, MarksAreDrawn}
use Rattle.vcm_picture.specs.Marks.{are_few, contact_of}
use Rattle.vcm_picture.specs.Names.{first_names, with_first, all_figure_boxes}
use Rattle.vcm_picture.specs.Shapes.{step_of}
use Rattle.vcm_picture.specs.Shown.{faces_from, all_seen}
use Rattle.vcm_picture.specs.Way.{limits_shape, mark_piece, mark_touched, pieces, touched_points, tip_at, tip_at_contact, contact_shape, ends, way_shapes}

-- the marks of shapes, and then those of others
more_drawn : (some more : List Shape) → marks_drawn (some ++ more) ≡ marks_drawn some ++ marks_drawn more
more_drawn [] more = refl
more_drawn (x ∷ xs) more =
    ap (λ l. option_to_list (mark_drawn x) ++ l) (more_drawn xs more) ∙ sym (append_assoc (option_to_list (mark_drawn x)) (marks_drawn xs) (marks_drawn more))

-- behind shapes that tell no mark
then_drawn : (some more : List Shape) (l : List DrawnMark) → marks_drawn some ≡ [] → marks_drawn more ≡ l → marks_drawn (some ++ more) ≡ l
then_drawn some more l e h = more_drawn some more ∙ ap (λ x. x ++ marks_drawn more) e ∙ h

both_drawn : (some more : List Shape) (k l : List DrawnMark) → marks_drawn some ≡ k → marks_drawn more ≡ l → marks_drawn (some ++ more) ≡ k ++ l
both_drawn some more k l e h = more_drawn some more ∙ ap₂ (λ x y. x ++ y) e h

open_one : (f : Face) (s : Shown) → marks_drawn (option_to_list (open_shape f s)) ≡ []
open_one f Repeated = refl
open_one f Hidden = refl
open_one f (Open g) = refl

hidden_one : (f : Face) (s : Shown) → marks_drawn (option_to_list (hidden_shape f s)) ≡ []
hidden_one f Repeated = refl
hidden_one f Hidden = refl
hidden_one f (Open g) = refl

number_one : (f : Face) (s : Shown) → marks_drawn (option_to_list (number_shape f s)) ≡ []
number_one f Repeated = refl
number_one f Hidden = refl
number_one f (Open None) = refl
number_one f (Open (Some g)) = refl

-- blocks tell no mark
open_none : (seen : List Seen) → marks_drawn (open_shapes seen) ≡ []
open_none [] = refl
open_none (s ∷ ss) = then_drawn (option_to_list (open_shape s.face s.shown)) (open_shapes ss) [] (open_one s.face s.shown) (open_none ss)

hidden_none : (seen : List Seen) → marks_drawn (hidden_shapes seen) ≡ []
hidden_none [] = refl
hidden_none (s ∷ ss) = then_drawn (option_to_list (hidden_shape s.face s.shown)) (hidden_shapes ss) [] (hidden_one s.face s.shown) (hidden_none ss)

number_none : (seen : List Seen) → marks_drawn (number_shapes seen) ≡ []
number_none [] = refl
number_none (s ∷ ss) = then_drawn (option_to_list (number_shape s.face s.shown)) (number_shapes ss) [] (number_one s.face s.shown) (number_none ss)

hit_one : (o : Option Face) → marks_drawn (option_to_list (option_map (λ f. Path class.Hit (rect_outline f.rect)) o)) ≡ []
hit_one None = refl
hit_one (Some f) = refl

hit_none : (faces : List Face) (c : Option Contact) → marks_drawn (option_to_list (hit_shape faces c)) ≡ []
hit_none faces None = refl
hit_none faces (Some c) = hit_one (slice_get faces (c.block - 1))

blocks_none : (faces : List Face) (seen : List Seen) (c : Option Contact) → marks_drawn (blocks_shapes faces seen c) ≡ []
blocks_none faces seen c =
    then_drawn (open_shapes seen) _ [] (open_none seen)
    (then_drawn (hidden_shapes seen) _ [] (hidden_none seen) (then_drawn (option_to_list (hit_shape faces c)) _ [] (hit_none faces c) (number_none seen)))

-- nor do names
name_none : (a : Option Rect) (u : ℤ) (w : Words) → marks_drawn (option_to_list (name_shape a u w)) ≡ []
name_none None u w = refl
name_none (Some a) u w = refl

contact_none : (a : Option Rect) (u : ℤ) (c : Option Contact) → marks_drawn (option_to_list (contact_name a u c)) ≡ []
contact_none a u None = refl
contact_none a u (Some c) = name_none a u (words.Block c.block)

features_none : (u : ℤ) (named : List Named) → marks_drawn (feature_shapes u named) ≡ []
features_none u [] = refl
features_none u (n ∷ ns) = features_none u ns

first_none : (u : ℤ) (c : Option Contact) (f : FirstNames) → marks_drawn (flat_map option_to_list (first_shapes u c f)) ≡ []
first_none u c f =
    then_drawn (option_to_list (contact_name f.contact u c)) _ [] (contact_none f.contact u c)
    (then_drawn (option_to_list (name_shape f.end u words.End)) _ [] (name_none f.end u words.End)
    (then_drawn (option_to_list (name_shape f.home u words.Home)) [] [] (name_none f.home u words.Home) refl))

names_none : (s : Scope) (home position : Point) (features : List (List ℕ)) (marks : List PlacedMark) (seen : List Seen)
    → marks_drawn (names_shapes s home features position marks seen) ≡ []
names_none s home position features marks seen =
    let first = first_names s (contact_of marks) position home [] in
    let named = names_beside s features marks (with_first [] first ++ all_figure_boxes seen) in
    then_drawn (flat_map option_to_list (first_shapes s.unit (contact_of marks) first)) (feature_shapes s.unit named) []
    (first_none s.unit (contact_of marks) first) (features_none s.unit named)

-- the limits, home, the end and the tip there tell none
limits_one : (t : Bool) (x : Shape) → marks_drawn (x ∷ []) ≡ [] → marks_drawn (option_to_list (if t then None else Some x)) ≡ []
limits_one true x e = refl
limits_one false x e = e

limits_none : (s : Scope) (low high : Point) → marks_drawn (option_to_list (limits_shape s low high)) ≡ []
limits_none s low high = limits_one _ _ refl

tip_contact_none : (s : Scope) (half : ℕ) (c : Option Contact) → marks_drawn (option_to_list (tip_at_contact s half c)) ≡ []
tip_contact_none s half None = refl
tip_contact_none s half (Some c) = limits_one _ _ refl

contact_one : (s : Scope) (c : Option Contact) → marks_drawn (option_to_list (contact_shape s c)) ≡ map (contact_drawn s) (option_to_list c)
contact_one s None = refl
contact_one s (Some c) = refl

ends_drawn : (s : Scope) (b : Bounds) (position : Point) (c : Option Contact)
    → marks_drawn (flat_map option_to_list (ends s b position c)) ≡ map (contact_drawn s) (option_to_list c)
ends_drawn s b position c =
    then_drawn (option_to_list (tip_at s b.tip position tip.TipAtEnd)) _ _ (limits_one _ _ refl)
    (then_drawn (option_to_list (tip_at_contact s b.tip c)) _ _ (tip_contact_none s b.tip c)
    (more_drawn (option_to_list (contact_shape s c)) [] ∙ append-nil _ ∙ contact_one s c))

-- each piece tells its mark
piece_one : (s : Scope) (few : Bool) (m : PlacedMark) (k : Mark) (ms : List PlacedMark) (l : List PlacedMark) → m.mark ≡ k
    → marks_drawn (pieces s few ms) ≡ map (drawn_of s) l
    → marks_drawn (option_to_list (mark_piece s few m k) ++ pieces s few ms) ≡ map (drawn_of s) (cond (is_piece k) (m ∷ l) l)
piece_one s few m (Goes p) ms l e h = ap₂ (λ x y. x ∷ y) (ap (λ k. (Some (step_of m), k, outline_of s k)) (sym e)) h
piece_one s few m (Touches t) ms l e h = h
piece_one s few m (Meets c) ms l e h = h

pieces_drawn : (s : Scope) (few : Bool) (marks : List PlacedMark) → marks_drawn (pieces s few marks) ≡ map (drawn_of s) (filter (λ m. is_piece m.mark) marks)
pieces_drawn s few [] = refl
pieces_drawn s few (m ∷ ms) = piece_one s few m m.mark ms (filter (λ m. is_piece m.mark) ms) refl (pieces_drawn s few ms)

-- so does each touched point
touched_one : (s : Scope) (m : PlacedMark) (k : Mark) (ms : List PlacedMark) (l : List PlacedMark) → m.mark ≡ k
    → marks_drawn (touched_points s ms) ≡ map (drawn_of s) l
    → marks_drawn (option_to_list (mark_touched s m k) ++ touched_points s ms) ≡ map (drawn_of s) (cond (touches k) (m ∷ l) l)
touched_one s m (Goes p) ms l e h = h
touched_one s m (Touches t) ms l e h = ap₂ (λ x y. x ∷ y) (ap (λ k. (Some (step_of m), k, outline_of s k)) (sym e)) h
touched_one s m (Meets c) ms l e h = h

touched_drawn : (s : Scope) (marks : List PlacedMark) → marks_drawn (touched_points s marks) ≡ map (drawn_of s) (filter (λ m. touches m.mark) marks)
touched_drawn s [] = refl
touched_drawn s (m ∷ ms) = touched_one s m m.mark ms (filter (λ m. touches m.mark) ms) refl (touched_drawn s ms)

way_drawn : (s : Scope) (b : Bounds) (position : Point) (marks : List PlacedMark)
    → marks_drawn (way_shapes s b position marks)
    ≡ map (drawn_of s) (filter (λ m. is_piece m.mark) marks)
    ++ (map (drawn_of s) (filter (λ m. touches m.mark) marks) ++ map (contact_drawn s) (option_to_list (contact_of marks)))
way_drawn s b position marks =
    then_drawn (option_to_list (limits_shape s b.low b.high)) _ _ (limits_none s b.low b.high)
    (both_drawn (pieces s (are_few marks) marks) _ _ _ (pieces_drawn s (are_few marks) marks)
    (both_drawn (touched_points s marks) _ _ _ (touched_drawn s marks) (ends_drawn s b position (contact_of marks))))

view_drawn : (s : Scope) (b : Bounds) (features : List (List ℕ)) (position : Point) (marks : List PlacedMark) (faces : List Face) (seen : List Seen)
    → marks_drawn (shapes_of s b features position marks faces seen)
    ≡ map (drawn_of s) (filter (λ m. is_piece m.mark) marks)
    ++ (map (drawn_of s) (filter (λ m. touches m.mark) marks) ++ map (contact_drawn s) (option_to_list (contact_of marks)))
view_drawn s b features position marks faces seen =
    then_drawn (blocks_shapes faces seen (contact_of marks)) _ _ (blocks_none faces seen (contact_of marks))
    (more_drawn (way_shapes s b position marks) (names_shapes s b.home features position marks seen)
    ∙ ap₂ (λ x y. x ++ y) (way_drawn s b position marks) (names_none s b.home position features marks seen) ∙ append-nil _)

pub marks_are_drawn : MarksAreDrawn
marks_are_drawn s scene marks =
    let faces = faces_from s 1 scene.part.blocks in
    view_drawn s scene.part.bounds scene.held.tables.features scene.held.state.position marks faces (all_seen s.unit faces)
