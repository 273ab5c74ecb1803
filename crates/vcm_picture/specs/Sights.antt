-- What a picture is made of, as contracts see it: spans, windows, scopes and layouts.
use Rattle.std.specs.Prelude.{ℤ}
use Rattle.vcm_num.specs.declared.point.Point.{Point}
use Rattle.vcm_picture.specs.declared.view.View.{View}

-- the least and the greatest coordinate of some points on an axis
pub record Span : Type 0 where
  pub low : ℤ
  pub high : ℤ

-- what the views show: its low corner, its extent, the micrometres of a unit of the picture, and the unit of marks and texts
pub record Window : Type 0 where
  pub low : Point
  pub full : Point
  pub grain : ℤ
  pub unit : ℤ

-- what a view shows: the micrometres at its left and upper edge, its grain, the unit of marks and texts, and its width and height
pub record Scope : Type 0 where
  pub view : View
  pub left : ℤ
  pub top : ℤ
  pub grain : ℤ
  pub unit : ℤ
  pub wide : ℤ
  pub high : ℤ

-- where the parts of a picture stand, and its size
pub record Layout : Type 0 where
  pub left : ℤ
  pub top : ℤ
  pub front : ℤ
  pub side : ℤ
  pub wide : ℤ
  pub high : ℤ
