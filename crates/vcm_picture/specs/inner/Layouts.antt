-- What a layout is made of, in range.
use Rattle.std.specs.Prelude.{ℤ, pos, ◌≤ℤ◌}

-- the unit of marks and texts of a window
pub record IsSlim (z : ℤ) : Type 0 where
  pub from_below : pos 1 ≤ℤ z
  pub from_above : z ≤ℤ pos 17179870

-- a number of units in the heading
pub record IsLine (z : ℤ) : Type 0 where
  pub from_below : pos 0 ≤ℤ z
  pub from_above : z ≤ℤ pos 1000
