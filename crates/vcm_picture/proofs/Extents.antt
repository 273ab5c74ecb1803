-- Extents of a window.
use Rattle.std.proofs.Common.{◌≡◌, ℤ, pos, negsuc, ◌+ℤ◌, ◌-ℤ◌, ◌*ℤ◌, ◌≤ℤ◌, ◌/◌, ◌≤◌, arith, ap, ◌∙◌, refl}
use Rattle.std.proofs.lemmas.Int.{ints}
use Rattle.std.specs.Int.{int_div_euclid, int_max}
use Rattle.vcm_picture.specs.Sights.{Span}
use Rattle.vcm_picture.specs.Window.{size, grown, low_of, most_of}
use Rattle.vcm_picture.specs.Ranges.{IsMost, IsPart}

-- a sixteenth of the greatest extent
pub sixteenth : (m r : ℤ) → IsMost m → r ≡ int_div_euclid m (pos 16) → IsPart r
sixteenth (pos n) r h e =
    let k : n ≤ 2000000000 = omega (arith, ints, h.from_above) in
    let q : n / 16 ≤ 125000000 = omega arith in
    rw e (record { from_below = omega (arith, ints); from_above = omega (arith, ints) })
sixteenth (negsuc n) r h e = absurd (omega (arith, ints, h.from_below))

pub sum_same : (a b p q : ℤ) → a ≡ p → b ≡ q → (a +ℤ pos 2 *ℤ b) ≡ (p +ℤ pos 2 *ℤ q)
sum_same a b p q e f = ap (λ a. a +ℤ pos 2 *ℤ b) e ∙ ap (λ b. p +ℤ pos 2 *ℤ b) f

-- a thousandth of the longest sum of extents
pub thousandth : (m r : ℤ) → pos 0 ≤ℤ m → m ≤ℤ pos 17179869184 → r ≡ int_div_euclid m (pos 1000) → r ≤ℤ pos 17179870
thousandth (pos n) r l h e =
    let k : n ≤ 17179869184 = omega (arith, ints, h) in
    let q : n / 1000 ≤ 17179870 = omega arith in
    rw e (omega (arith, ints))
thousandth (negsuc n) r l h e = absurd (omega (arith, ints, l))

pub low_same : (s : Span) (most g z p q : ℤ) → g ≡ grown s most → z ≡ size s → p ≡ int_div_euclid (g -ℤ z) (pos 2) → q ≡ int_div_euclid most (pos 16)
    → s.low -ℤ p -ℤ q ≡ low_of s most
low_same s most g z p q a b c d = rw (c, d, a, b) refl

pub most_same : (x y z : Span) (a b c m n r : ℤ) → r ≡ int_max m n → m ≡ int_max a b → n ≡ int_max c (pos 1000)
    → a ≡ size x → b ≡ size y → c ≡ size z → r ≡ most_of x y z
most_same x y z a b c m n r e f g h i j = rw (e, f, g, h, i, j) refl
