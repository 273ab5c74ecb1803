-- What of a view is in sight.
use Rattle.std.specs.Prelude.{pos, Bool, true, false, ◌&&◌, ◌||◌, int_le}
use Rattle.vcm_num.specs.declared.point.Point.{Point}
use Rattle.vcm_svg.specs.declared.rect.Spot.{Spot}
use Rattle.vcm_picture.specs.declared.shapes.Tip.{Tip}
use Rattle.vcm_picture.specs.declared.shapes.Tip.TheVariants as tip
use Rattle.vcm_picture.specs.Sights.{Scope}
use Rattle.vcm_picture.specs.View.{spot_of}

-- whether a place lies between the left and the right side of a frame
abbrev pub lies_across : Scope → Spot → Bool
lies_across s a = int_le (pos 0) a.x && int_le a.x s.wide

-- whether it lies between the upper and the lower side
abbrev pub lies_down : Scope → Spot → Bool
lies_down s a = int_le (pos 0) a.y && int_le a.y s.high

-- whether it lies in the frame
abbrev pub in_frame : Scope → Spot → Bool
in_frame s a = lies_across s a && lies_down s a

-- whether one of two corners lies between the left and the right side
abbrev pub crosses_across : Scope → Spot → Spot → Bool
crosses_across s a b = lies_across s a || lies_across s b

-- whether one of them lies between the upper and the lower side
abbrev pub crosses_down : Scope → Spot → Spot → Bool
crosses_down s a b = lies_down s a || lies_down s b

-- whether an edge of what lies between two corners lies between two sides
abbrev pub crosses : Scope → Spot → Spot → Bool
crosses s a b = crosses_across s a b || crosses_down s a b

-- whether a point is in sight
abbrev pub is_seen : Scope → Point → Bool
is_seen s p = in_frame s (spot_of s p)

-- whether what a tooltip tells is in sight
abbrev pub in_sight : Scope → Tip → Bool
in_sight s (tip.Block n b) = true
in_sight s (tip.Leg t p) = true
in_sight s (tip.Touched t p) = is_seen s p.at
in_sight s (tip.Limits low high) = crosses s (spot_of s low) (spot_of s high)
in_sight s (tip.Home p) = is_seen s p
in_sight s (tip.End p) = is_seen s p
in_sight s tip.TipAtEnd = false
in_sight s tip.TipAtContact = false
in_sight s (tip.Contact c) = is_seen s c.at
