-- Rectangles in a view.
use Rattle.std.specs.Prelude.{ℤ, ◌+ℤ◌, Bool, ◌&&◌, int_le}
use Rattle.vcm_svg.specs.declared.rect.Rect.{Rect}
use Rattle.vcm_svg.specs.declared.rect.Spot.{Spot}

-- whether what lies from low to high and what lies from one number to another have a number in common
abbrev pub overlaps : ℤ → ℤ → ℤ → ℤ → Bool
overlaps low high from to = int_le low to && int_le from high

-- whether the first contains the second
abbrev pub covers : ℤ → ℤ → ℤ → ℤ → Bool
covers low high from to = int_le low from && int_le to high

-- whether two rectangles have a place in common, edges included
abbrev pub meets : Rect → Rect → Bool
meets a b = overlaps a.left a.right b.left b.right && overlaps a.top a.bottom b.top b.bottom

-- whether the first contains the second
abbrev pub contains : Rect → Rect → Bool
contains a b = covers a.left a.right b.left b.right && covers a.top a.bottom b.top b.bottom

-- whether they are one: each contains the other
abbrev pub is_same : Rect → Rect → Bool
is_same a b = contains a b && contains b a

-- the rectangle of this corner, width and height
abbrev pub boxed : ℤ → ℤ → ℤ → ℤ → Rect
boxed left top wide high = record { left = left; top = top; right = left +ℤ wide; bottom = top +ℤ high }

-- a place
abbrev pub spot : ℤ → ℤ → Spot
spot x y = record { x = x; y = y }
