-- The way of the probe in a view: limits, pieces, touched points, home, end and contact.
use Rattle.std.specs.Prelude.{ℕ, ℤ, pos, negsuc, ◌+ℤ◌, ◌*ℤ◌, Bool, ◌&&◌, ◌||◌, not, int_lt, nat_eq, if◌then◌else◌}
use Rattle.std.specs.Prelude.{List, [], ◌∷◌, ◌++◌, Option, Some, None, option_to_list, flat_map}
use Rattle.std.specs.Int.{int_min, int_max, int_div_euclid}
use Rattle.std.specs.Ordering.{int_eq}
use Rattle.vcm_num.specs.declared.point.Point.{Point}
use Rattle.vcm_spec.specs.declared.workpiece.Bounds.{Bounds}
use Rattle.vcm_marks.specs.declared.mark.Contact.{Contact}
use Rattle.vcm_marks.specs.declared.mark.Going.{Going}
use Rattle.vcm_marks.specs.declared.mark.Going.TheVariants.{Move, Approach, Search, Retract, Rest}
use Rattle.vcm_marks.specs.declared.mark.Mark.{Mark}
use Rattle.vcm_marks.specs.declared.mark.Mark.TheVariants.{Goes, Touches, Meets}
use Rattle.vcm_marks.specs.declared.mark.Leg.{Leg}
use Rattle.vcm_marks.specs.declared.mark.PlacedMark.{PlacedMark}
use Rattle.vcm_marks.specs.declared.mark.Touched.{Touched}
use Rattle.vcm_svg.specs.declared.outlines.Outline.TheVariants as outline
use Rattle.vcm_svg.specs.declared.rect.Rect.{Rect}
use Rattle.vcm_svg.specs.declared.rect.Spot.{Spot}
use Rattle.vcm_svg.specs.declared.shapes.Class.{Class}
use Rattle.vcm_svg.specs.declared.shapes.Class.TheVariants as class
use Rattle.vcm_svg.specs.Outlines.{rect_outline, square_round, circle, cross}
use Rattle.vcm_picture.specs.declared.shapes.Shape.{Shape}
use Rattle.vcm_picture.specs.declared.shapes.Shape.TheVariants.{Told}
use Rattle.vcm_picture.specs.declared.shapes.Tip.{Tip}
use Rattle.vcm_picture.specs.declared.shapes.Tip.TheVariants as tip
use Rattle.vcm_picture.specs.Sights.{Scope}
use Rattle.vcm_picture.specs.Marks.{are_few, contact_of}
use Rattle.vcm_picture.specs.Shapes.{step_of}
use Rattle.vcm_picture.specs.View.{rect_of, spot_of}

-- the class of a piece between two places: a move has an arrow where pieces are few and the places differ
abbrev pub class_of : Going → Spot → Spot → Bool → Class
class_of Move a b is_few = if is_few && not (int_eq a.x b.x && int_eq a.y b.y) then class.Arrow else class.Move
class_of Approach a b is_few = class.Approach
class_of Search a b is_few = class.Search
class_of Retract a b is_few = class.Retract
class_of Rest a b is_few = class.Rest

-- the class of a piece of this class, if it begins elsewhere
abbrev pub class_if : Bool → Class → Class
class_if is_elsewhere c = if is_elsewhere then class.Elsewhere else c

-- a piece: a line between its ends
abbrev pub piece_shape : Scope → Bool → PlacedMark → Leg → Shape
piece_shape s is_few m p =
    Told (class_if m.is_elsewhere (class_of p.going (spot_of s p.from) (spot_of s p.to) is_few)) (outline.Line (spot_of s p.from) (spot_of s p.to)) (tip.Leg (step_of m) p)

-- the piece of a mark
abbrev pub mark_piece : Scope → Bool → PlacedMark → Mark → Option Shape
mark_piece s is_few m (Goes p) = Some (piece_shape s is_few m p)
mark_piece s is_few m (Touches t) = None
mark_piece s is_few m (Meets c) = None

-- all pieces
abbrev pub pieces : Scope → Bool → List PlacedMark → List Shape
pieces s is_few marks = flat_map (λ m. option_to_list (mark_piece s is_few m m.mark)) marks

-- a touched point: a circle of three units round it
abbrev pub touched_shape : Scope → PlacedMark → Touched → Shape
touched_shape s m t = Told class.Touched (circle (spot_of s t.at) (pos 3 *ℤ s.unit)) (tip.Touched (step_of m) t)

-- the touched point of a mark
abbrev pub mark_touched : Scope → PlacedMark → Mark → Option Shape
mark_touched s m (Goes p) = None
mark_touched s m (Touches t) = Some (touched_shape s m t)
mark_touched s m (Meets c) = None

-- all touched points
abbrev pub touched_points : Scope → List PlacedMark → List Shape
touched_points s marks = flat_map (λ m. option_to_list (mark_touched s m m.mark)) marks

-- what is seen of the limits in a view, with a little more on each side
abbrev pub in_view : Scope → Rect → Rect
in_view s r = record {
  left = int_max r.left (negsuc 3 *ℤ s.unit);
  top = int_max r.top (negsuc 3 *ℤ s.unit);
  right = int_min r.right (s.wide +ℤ pos 4 *ℤ s.unit);
  bottom = int_min r.bottom (s.high +ℤ pos 4 *ℤ s.unit);
}

-- the limits, of which this is seen
abbrev pub limits_in : Rect → Point → Point → Option Shape
limits_in r low high =
    if int_lt r.right r.left || int_lt r.bottom r.top then None else Some (Told class.Limits (rect_outline r) (tip.Limits low high))

-- the limits, where they lie in the view
abbrev pub limits_shape : Scope → Point → Point → Option Shape
limits_shape s low high = limits_in (in_view s (rect_of s low high)) low high

-- home
abbrev pub home_shape : Scope → Point → Shape
home_shape s home = Told class.Place (square_round (spot_of s home) (pos 5 *ℤ s.unit)) (tip.Home home)

-- the end
abbrev pub end_shape : Scope → Point → Shape
end_shape s position = Told class.Place (circle (spot_of s position) (pos 8 *ℤ s.unit)) (tip.End position)

-- the half width of the tip, of one in micrometres
abbrev pub half_of : Scope → ℕ → ℤ
half_of s half = int_div_euclid (pos half) s.grain

-- the tip of that half width in micrometres at a point
abbrev pub tip_shape : Scope → ℕ → Point → Tip → Shape
tip_shape s half at t = Told class.Tip (square_round (spot_of s at) (half_of s half)) t

-- the same, where the tip isn't a point
abbrev pub tip_at : Scope → ℕ → Point → Tip → Option Shape
tip_at s half at t = if nat_eq half 0 then None else Some (tip_shape s half at t)

-- the tip at the contact, if there is one
abbrev pub tip_at_contact : Scope → ℕ → Option Contact → Option Shape
tip_at_contact s half None = None
tip_at_contact s half (Some c) = tip_at s half c.at tip.TipAtContact

-- the contact, if there is one
abbrev pub contact_shape : Scope → Option Contact → Option Shape
contact_shape s None = None
contact_shape s (Some c) = Some (Told class.Cross (cross (spot_of s c.at) (pos 6 *ℤ s.unit)) (tip.Contact c))

-- home, the end, the tip there, and the contact
abbrev pub ends : Scope → Bounds → Point → Option Contact → List (Option Shape)
ends s bounds position contact =
    Some (home_shape s bounds.home) ∷ Some (end_shape s position) ∷ tip_at s bounds.tip position tip.TipAtEnd ∷ tip_at_contact s bounds.tip contact
    ∷ contact_shape s contact ∷ []

-- the way in a view, with these limits and this position at the end
abbrev pub way_shapes : Scope → Bounds → Point → List PlacedMark → List Shape
way_shapes s bounds position marks =
    option_to_list (limits_shape s bounds.low bounds.high)
    ++ (pieces s (are_few marks) marks
    ++ (touched_points s marks ++ flat_map option_to_list (ends s bounds position (contact_of marks))))
