-- Boxes that are fixed to the tip.
use Rattle.std.specs.Prelude.{◌≡◌, ◌≤◌, ℕ, ℤ, pos, negsuc, int_le, ◌&&◌, ◌||◌, not, Bool, true, false, List, [], ◌∷◌, length}
use Rattle.std.specs.List.{list_all, list_any}
use Rattle.std.specs.Str.{bytes_eq}
use Rattle.vcm_num.specs.declared.point.Point.{Point}
use Rattle.vcm_num.specs.Point.{coordinate, is_below, on_each}
use Rattle.vcm_boxes.specs.declared.boxes.ProbeBox.{ProbeBox}

-- whether a coordinate is at most ten metres from the centre of the tip
abbrev pub is_by_tip : ℤ → Bool
is_by_tip z = int_le (negsuc 9999999) z && int_le z (pos 10000000)

-- whether each coordinate of a corner is
abbrev pub is_corner : Point → Bool
is_corner p = on_each (λ k. is_by_tip (coordinate p k))

-- whether the corners of a box are in range, and no coordinate of the low one is above the high one's
abbrev pub is_box : ProbeBox → Bool
is_box b = is_corner b.block.low && is_corner b.block.high && is_below (coordinate b.block.low) (coordinate b.block.high)

-- whether one of these boxes has the name
abbrev pub is_taken : List ℕ → List ProbeBox → Bool
is_taken name bs = list_any (λ b. bytes_eq b.name name) bs

-- 1 to 16 boxes, each in range
pub record AreBoxes (bs : List ProbeBox) : Type 0 where
  pub some : 1 ≤ length bs
  pub few : length bs ≤ 16
  pub each : list_all is_box bs ≡ true
