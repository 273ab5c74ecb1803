-- Ranges of numbers, far within 64 bits.
use Rattle.std.specs.Prelude.{ℤ, pos, negsuc, ◌≤ℤ◌}
use Rattle.vcm_svg.specs.declared.rect.Rect.{Rect}
use Rattle.vcm_svg.specs.declared.rect.Spot.{Spot}

-- a place in a view
pub record IsSmall (z : ℤ) : Type 0 where
  pub from_below : negsuc 1099511627775 ≤ℤ z
  pub from_above : z ≤ℤ pos 1099511627776

-- a place beside one in a view
pub record IsLarge (z : ℤ) : Type 0 where
  pub from_below : negsuc 1125899906842623 ≤ℤ z
  pub from_above : z ≤ℤ pos 1125899906842624

-- the extent of a window
pub record IsSize (z : ℤ) : Type 0 where
  pub from_below : pos 0 ≤ℤ z
  pub from_above : z ≤ℤ pos 8589934592

-- the extent of what is drawn
pub record IsExtent (z : ℤ) : Type 0 where
  pub from_below : pos 0 ≤ℤ z
  pub from_above : z ≤ℤ pos 562949953421312

-- a unit, or a grain
pub record IsUnit (z : ℤ) : Type 0 where
  pub from_below : pos 1 ≤ℤ z
  pub from_above : z ≤ℤ pos 8589934592

-- a place whose numbers are small
pub record IsSpot (s : Spot) : Type 0 where
  pub x : IsSmall s.x
  pub y : IsSmall s.y

-- a place beside one whose numbers are small
pub record IsPlace (s : Spot) : Type 0 where
  pub x : IsLarge s.x
  pub y : IsLarge s.y

-- a rectangle whose numbers are small
pub record IsRect (r : Rect) : Type 0 where
  pub left : IsSmall r.left
  pub top : IsSmall r.top
  pub right : IsSmall r.right
  pub bottom : IsSmall r.bottom

-- the box of a text, whose corner stands beside a place
pub record IsTextBox (r : Rect) : Type 0 where
  pub left : IsLarge r.left
  pub top : IsLarge r.top
