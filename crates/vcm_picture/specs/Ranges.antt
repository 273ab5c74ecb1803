-- Ranges of numbers, far within 64 bits.
use Rattle.std.specs.Prelude.{ℕ, ℤ, pos, negsuc, ◌<◌, ◌≤ℤ◌}
use Rattle.vcm_num.specs.Point.{IsNear, coordinate}
use Rattle.vcm_svg.specs.Ranges.{IsSize}
use Rattle.vcm_picture.specs.Sights.{Layout}
use Rattle.vcm_picture.specs.Sights.{Span}
use Rattle.vcm_picture.specs.Sights.{Window}

-- the low corner of a window
pub record IsEdge (z : ℤ) : Type 0 where
  pub from_below : negsuc 17179869183 ≤ℤ z
  pub from_above : z ≤ℤ pos 17179869184

-- the edge of a view, or a coordinate
pub record IsBorder (z : ℤ) : Type 0 where
  pub from_below : negsuc 68719476735 ≤ℤ z
  pub from_above : z ≤ℤ pos 68719476736

-- how many letters a name or a number has
pub record IsLetters (z : ℤ) : Type 0 where
  pub from_below : pos 0 ≤ℤ z
  pub from_above : z ≤ℤ pos 32

-- the greatest extent of what is shown
pub record IsMost (z : ℤ) : Type 0 where
  pub from_below : pos 1000 ≤ℤ z
  pub from_above : z ≤ℤ pos 2000000000

-- a sixteenth of it
pub record IsPart (z : ℤ) : Type 0 where
  pub from_below : pos 0 ≤ℤ z
  pub from_above : z ≤ℤ pos 125000000

-- the least and the greatest of coordinates that are near
pub record IsSpan (s : Span) : Type 0 where
  pub low : IsNear s.low
  pub high : IsNear s.high
  pub order : s.low ≤ℤ s.high

-- a window
pub record IsWindow (w : Window) : Type 0 where
  pub low : (k : ℕ) → k < 3 → IsEdge (coordinate w.low k)
  pub full : (k : ℕ) → k < 3 → IsSize (coordinate w.full k)
  pub fine : w.grain ≤ℤ pos 1000
  pub slim : w.unit ≤ℤ pos 17179870

-- a layout whose numbers are small
pub record IsLayout (l : Layout) : Type 0 where
  pub left : IsBorder l.left
  pub top : IsBorder l.top
  pub front : IsBorder l.front
  pub side : IsBorder l.side
  pub wide : IsBorder l.wide
  pub high : IsBorder l.high
