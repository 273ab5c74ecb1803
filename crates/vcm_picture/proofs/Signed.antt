-- Signed numbers as the code reads them.
use Rattle.std.proofs.Common.{◌≡◌, ℤ, pos, negsuc, ◌-ℤ◌, ◌≤ℤ◌, w64, to_z, of_z, arith, ap, ◌∙◌}
use Rattle.std.proofs.lemmas.Int.{ints, to_z-of_z}
use Rattle.vcm_num.specs.Point.{IsNear}
use Rattle.vcm_picture.specs.Ranges.{IsBorder}
use Rattle.vcm_svg.specs.Ranges.{IsSize, IsSmall}
use Rattle.vcm_svg.specs.Rect.{spot}

pub border_read : (z : ℤ) → IsBorder z → to_z w64 (of_z w64 z) ≡ z
border_read z h = to_z-of_z w64 z (omega (arith, ints))

pub near_border : (z : ℤ) → IsNear z → IsBorder z
near_border z h = record { from_below = omega (arith, ints); from_above = omega (arith, ints) }

pub border_again : (z : ℤ) → IsBorder z → IsBorder (to_z w64 (of_z w64 z))
border_again z h = rw (border_read z h) h

-- a quotient is small where what is divided is
pub quotient_small : (v r : ℤ) → IsSmall v → (pos 0 ≤ℤ v → pos 0 ≤ℤ r) → (pos 0 ≤ℤ v → r ≤ℤ v) → (v ≤ℤ pos 0 → r ≤ℤ pos 0) → (v ≤ℤ pos 0 → v ≤ℤ r) → IsSmall r
quotient_small (pos n) r h a b d e =
    let x : pos 0 ≤ℤ r = a (omega (arith, ints)) in
    let y : r ≤ℤ pos n = b (omega (arith, ints)) in
    record { from_below = omega (arith, ints); from_above = omega (arith, ints) }
quotient_small (negsuc n) r h a b d e =
    let x : r ≤ℤ pos 0 = d (omega (arith, ints)) in
    let y : negsuc n ≤ℤ r = e (omega (arith, ints)) in
    record { from_below = omega (arith, ints); from_above = omega (arith, ints) }

pub difference_small : (a b : ℤ) → IsBorder a → IsBorder b → IsSmall (a -ℤ b)
difference_small a b h k = record { from_below = omega (arith, ints); from_above = omega (arith, ints) }

-- places of equal numbers
pub spot_same : (a b p q : ℤ) → a ≡ p → b ≡ q → spot a b ≡ spot p q
spot_same a b p q e f = ap (λ a. spot a b) e ∙ ap (λ b. spot p b) f

-- a quotient is an extent where what is divided is
pub quotient_size : (v r : ℤ) → IsSize v → (pos 0 ≤ℤ v → pos 0 ≤ℤ r) → (pos 0 ≤ℤ v → r ≤ℤ v) → IsSize r
quotient_size v r h a b =
    let l = h.from_below in
    let x : pos 0 ≤ℤ r = a l in
    let y : r ≤ℤ v = b l in
    record { from_below = omega (arith, ints); from_above = omega (arith, ints) }
