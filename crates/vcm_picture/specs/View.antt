-- The three views.
use Rattle.std.specs.Prelude.{ℕ, ℤ, ◌+ℤ◌, ◌-ℤ◌, neg_ℤ, List, codes}
use Rattle.std.specs.Int.{int_div_euclid}
use Rattle.vcm_num.specs.declared.point.Point.{Point}
use Rattle.vcm_num.specs.Point.{coordinate}
use Rattle.vcm_spec.specs.declared.workpiece.Block3.{Block3}
use Rattle.vcm_svg.specs.declared.rect.Rect.{Rect}
use Rattle.vcm_svg.specs.declared.rect.Spot.{Spot}
use Rattle.vcm_svg.specs.Rect.{spot}
use Rattle.vcm_picture.specs.Sights.{Scope}
use Rattle.vcm_picture.specs.declared.view.View.{View}
use Rattle.vcm_picture.specs.declared.view.View.TheVariants.{Top, Front, Side}
use Rattle.vcm_picture.specs.Sights.{Window}
use Rattle.vcm_picture.specs.Drawn.{drawn_at}

-- the axis to the right: 0 is X, 1 is Y, 2 is Z
abbrev pub right_axis : View → ℕ
right_axis Top = 0
right_axis Front = 0
right_axis Side = 1

-- the axis up
abbrev pub up_axis : View → ℕ
up_axis Top = 1
up_axis Front = 2
up_axis Side = 2

-- the title
abbrev pub title : View → List ℕ
title Top = codes "top: X right, Y up"
title Front = codes "front: X right, Z up"
title Side = codes "right side: Y right, Z up"

-- the digit of its clip path
abbrev pub clip : View → List ℕ
clip Top = codes "0"
clip Front = codes "1"
clip Side = codes "2"

-- how near a block is: of two blocks, that with the greater number is the nearer one
abbrev pub nearness : View → Block3 → ℤ
nearness Top b = coordinate b.high 2
nearness Front b = neg_ℤ (coordinate b.low 1)
nearness Side b = coordinate b.high 0

-- what a view shows of a window
abbrev pub scope_of : Window → View → Scope
scope_of w v = record {
  view = v;
  left = coordinate w.low (right_axis v);
  top = coordinate w.low (up_axis v) +ℤ coordinate w.full (up_axis v);
  grain = w.grain;
  unit = w.unit;
  wide = int_div_euclid (coordinate w.full (right_axis v)) w.grain;
  high = int_div_euclid (coordinate w.full (up_axis v)) w.grain;
}

-- where a near point stands in a view, in units of the picture from its upper left corner
abbrev pub near_spot : Scope → Point → Spot
near_spot s p =
    spot (int_div_euclid (coordinate p (right_axis s.view) -ℤ s.left) s.grain) (int_div_euclid (s.top -ℤ coordinate p (up_axis s.view)) s.grain)

-- where a point stands
abbrev pub spot_of : Scope → Point → Spot
spot_of s p = near_spot s (drawn_at p)

-- the rectangle of what lies between two corners
abbrev pub rect_of : Scope → Point → Point → Rect
rect_of s low high = record {
  left = (spot_of s low).x;
  top = (spot_of s high).y;
  right = (spot_of s high).x;
  bottom = (spot_of s low).y;
}
