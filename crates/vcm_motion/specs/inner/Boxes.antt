-- Boxes of moves and of measurements.
use Rattle.std.specs.Prelude.{ℕ, ℤ, pos, negsuc, ◌+ℤ◌, ◌-ℤ◌, ◌<◌, ◌≤ℤ◌}
use Rattle.vcm_num.specs.declared.axis.Axis.{Axis}
use Rattle.vcm_num.specs.declared.point.Point.{Point}
use Rattle.vcm_num.specs.Axis.{along}
use Rattle.vcm_num.specs.Point.{coordinate}
use Rattle.vcm_spec.specs.declared.workpiece.Block3.{Block3}

-- the coordinate is at most a kilometre and 50 mm from 0, as those of a grown block are
pub record IsWide (z : ℤ) : Type 0 where
  pub from_below : negsuc 1000049999 ≤ℤ z
  pub from_above : z ≤ℤ pos 1000050000

-- each coordinate of the block is
pub record IsWideBlock (block : Block3) : Type 0 where
  pub low : (k : ℕ) → k < 3 → IsWide (coordinate block.low k)
  pub high : (k : ℕ) → k < 3 → IsWide (coordinate block.high k)

-- on one axis the coordinates p and q of the ends lie from low to high
pub record IsSpan (p q low high : ℤ) : Type 0 where
  pub from_low : low ≤ℤ p
  pub from_high : p ≤ℤ high
  pub to_low : low ≤ℤ q
  pub to_high : q ≤ℤ high

-- the box holds the tip, of which h is half the width, at both ends of the move from p to q
abbrev pub IsBoxOf : ℕ → Point → Point → Block3 → Type 0
IsBoxOf h p q box =
    (k : ℕ) → k < 3 → IsSpan (coordinate p k) (coordinate q k) (coordinate box.low k +ℤ pos h) (coordinate box.high k -ℤ pos h)

-- on one axis the tip, its centre at z, lies from low to high
pub record IsHeld (h : ℕ) (z low high : ℤ) : Type 0 where
  pub from_low : (low +ℤ pos h) ≤ℤ z
  pub to_high : (z +ℤ pos h) ≤ℤ high

-- the box holds the tip at each place ahead of x along the direction that is not far from 0
abbrev pub IsLineBox : ℕ → (ℕ → ℤ) → Axis → Block3 → Type 0
IsLineBox h x toward box =
    (t : ℕ) → ((k : ℕ) → k < 3 → IsWide (along x toward t k)) → (k : ℕ) → k < 3
    → IsHeld h (along x toward t k) (coordinate box.low k) (coordinate box.high k)
