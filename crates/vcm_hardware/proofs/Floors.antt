-- Quotients, products and ranges, and how large they are.
use Rattle.std.proofs.Common.{◌≡◌, ℕ, ℤ, pos, negsuc, ◌+◌, ◌*◌, ◌/◌, ◌≤◌, ◌<◌, ◌+ℤ◌, ◌-ℤ◌, ◌*ℤ◌, ◌≤ℤ◌, arith, refl, FitsSigned}
use Rattle.std.specs.Prelude.{unsigned_abs}
use Rattle.std.specs.Int.{int_div_euclid, int_min, int_max}
use Rattle.std.proofs.lemmas.Int.{ints, clamps, unsigned_abs-mul, fits_signed_mul, fits_signed_from_abs}
use Rattle.std.proofs.lemmas.Nat.{div_below}
use Rattle.std.proofs.Math.Nat.{mul-le-mul_left, mul-le-mul_right}
use mir.Syntax.{w32, w128}
use Rattle.vcm_hardware.specs.declared.interval.Ratio.{Ratio}
use Rattle.vcm_hardware.specs.declared.interval.Interval.{Interval}
use Rattle.vcm_hardware.specs.Intervals.{floor_one, ceil_one, least_of, greatest_of, product, scaled, across, less}
use Rattle.vcm_hardware.specs.inner.Sizes.{IsWithin}

-- ---- products

pub times_small : (x y : ℤ) (m n : ℕ) → unsigned_abs x ≤ m → unsigned_abs y ≤ n → unsigned_abs (x *ℤ y) ≤ m * n
times_small x y m n p q =
    omega (arith, unsigned_abs-mul x y, mul-le-mul_left (unsigned_abs x) q, mul-le-mul_right n p)

-- those that the code computes fit
word_small : (x : ℤ) → FitsSigned w32 x → unsigned_abs x ≤ 2147483648
word_small x f = omega (arith, ints, f)

pub spread_fits : (x y : ℤ) → FitsSigned w32 x → unsigned_abs y ≤ 18446744073709551616 → FitsSigned w128 (x *ℤ y)
spread_fits x y f q = fits_signed_mul w128 x y 2147483648 18446744073709551616 (word_small x f) q (omega arith)

pub unit_small : (x y : ℤ) → unsigned_abs x ≤ 10000000 → unsigned_abs y ≤ 10000000 → unsigned_abs (x *ℤ y) ≤ 100000000000000
unit_small x y p q = times_small x y 10000000 10000000 p q

pub unit_fits : (x y : ℤ) → unsigned_abs x ≤ 10000000 → unsigned_abs y ≤ 10000000 → FitsSigned w128 (x *ℤ y)
unit_fits x y p q = fits_signed_mul w128 x y 10000000 10000000 p q (omega arith)

pub way_fits : (n x : ℤ) → unsigned_abs n ≤ 4294967296 → FitsSigned w32 x → FitsSigned w128 (n *ℤ x)
way_fits n x p f = fits_signed_mul w128 n x 4294967296 2147483648 p (word_small x f) (omega arith)

pub way_small : (n x : ℤ) → unsigned_abs n ≤ 4294967296 → FitsSigned w32 x → unsigned_abs (n *ℤ x) ≤ 9223372036854775808
way_small n x p f = times_small n x 4294967296 2147483648 p (word_small x f)

pub slope_fits : (s x : ℤ) → unsigned_abs s ≤ 21474836480000001 → unsigned_abs x ≤ 27670116110564327424 → FitsSigned w128 (s *ℤ x)
slope_fits s x p q = fits_signed_mul w128 s x 21474836480000001 27670116110564327424 p q (omega arith)

pub spread_small : (x y : ℤ) (n : ℕ) → FitsSigned w32 x → unsigned_abs y ≤ n → unsigned_abs (x *ℤ y) ≤ 2147483648 * n
spread_small x y n f q = times_small x y 2147483648 n (word_small x f) q

pub spread_far : (x y : ℤ) → FitsSigned w32 x → unsigned_abs y ≤ 18446744073709551616 → unsigned_abs (x *ℤ y) ≤ 39614081257132168796771975168
spread_far x y f q = spread_small x y 18446744073709551616 f q

pub slope_small : (s x : ℤ) (n : ℕ) → unsigned_abs s ≤ 21474836480000001 → unsigned_abs x ≤ n → unsigned_abs (s *ℤ x) ≤ 21474836480000001 * n
slope_small s x n p q = times_small s x 21474836480000001 n p q

pub slope_far : (s x : ℤ) → unsigned_abs s ≤ 21474836480000001 → unsigned_abs x ≤ 27670116110564327424 → unsigned_abs (s *ℤ x) ≤ 594211218856982559621695738084327424
slope_far s x p q = slope_small s x 27670116110564327424 p q

pub risen_fits : (c l : ℤ) → unsigned_abs c ≤ 10000000 → unsigned_abs l ≤ 17179869184 → FitsSigned w128 (c *ℤ l)
risen_fits c l p q = fits_signed_mul w128 c l 10000000 17179869184 p q (omega arith)

pub risen_small : (c l : ℤ) → unsigned_abs c ≤ 10000000 → unsigned_abs l ≤ 17179869184 → unsigned_abs (c *ℤ l) ≤ 171798691840000000
risen_small c l p q = times_small c l 10000000 17179869184 p q

pub aside_fits : (l a : ℤ) → unsigned_abs l ≤ 5538318189412 → unsigned_abs a ≤ 2147483648 → FitsSigned w128 (l *ℤ a)
aside_fits l a p q = fits_signed_mul w128 l a 5538318189412 2147483648 p q (omega arith)

pub aside_small : (l a : ℤ) → unsigned_abs l ≤ 5538318189412 → unsigned_abs a ≤ 2147483648 → unsigned_abs (l *ℤ a) ≤ 12000000000000000000000
aside_small l a p q = omega (arith, times_small l a 5538318189412 2147483648 p q)

-- ---- the lesser and the greater of two, in ten-millionths

min_small : (a b : ℤ) (p : ℕ) → unsigned_abs a ≤ p → unsigned_abs b ≤ p → unsigned_abs (int_min a b) ≤ p
min_small a b p h k = omega (arith, ints, clamps)

max_small : (a b : ℤ) (p : ℕ) → unsigned_abs a ≤ p → unsigned_abs b ≤ p → unsigned_abs (int_max a b) ≤ p
max_small a b p h k = omega (arith, ints, clamps)

pub least_within : (a b m low : ℤ) (p n : ℕ) → unsigned_abs a ≤ p → unsigned_abs b ≤ p → m ≡ int_min a b
    → unsigned_abs low * 10000000 ≤ unsigned_abs m + 9999999 → p + 9999999 < (n + 1) * 10000000 → unsigned_abs low ≤ n
least_within a b m low p n h k e l fits =
    let small : unsigned_abs m ≤ p = rw e (min_small a b p h k) in
    omega (arith, small, l, fits)

pub greatest_within : (a b m high : ℤ) (p n : ℕ) → unsigned_abs a ≤ p → unsigned_abs b ≤ p → m ≡ int_max a b
    → unsigned_abs high * 10000000 ≤ unsigned_abs m + 9999999 → p + 9999999 < (n + 1) * 10000000 → unsigned_abs high ≤ n
greatest_within a b m high p n h k e l fits =
    let small : unsigned_abs m ≤ p = rw e (max_small a b p h k) in
    omega (arith, small, l, fits)

pub greatest_fits : (a b m : ℤ) (p : ℕ) → unsigned_abs a ≤ p → unsigned_abs b ≤ p → m ≡ int_max a b → unsigned_abs m ≤ p
greatest_fits a b m p h k e = rw e (max_small a b p h k)

-- those of four
pub four_least : (a b c d m n l : ℤ) (p : ℕ) → unsigned_abs a ≤ p → unsigned_abs b ≤ p → unsigned_abs c ≤ p → unsigned_abs d ≤ p
    → m ≡ int_min a b → n ≡ int_min c d → l ≡ int_min m n → unsigned_abs l ≤ p
four_least a b c d m n l p ha hb hc hd e f g = rw (g, e, f) (min_small (int_min a b) (int_min c d) p (min_small a b p ha hb) (min_small c d p hc hd))

pub four_greatest : (a b c d m n l : ℤ) (p : ℕ) → unsigned_abs a ≤ p → unsigned_abs b ≤ p → unsigned_abs c ≤ p → unsigned_abs d ≤ p
    → m ≡ int_max a b → n ≡ int_max c d → l ≡ int_max m n → unsigned_abs l ≤ p
four_greatest a b c d m n l p ha hb hc hd e f g = rw (g, e, f) (max_small (int_max a b) (int_max c d) p (max_small a b p ha hb) (max_small c d p hc hd))

-- ---- intervals as the code makes them

pub product_is : (x y : Ratio) (a b c d l g low high : ℤ) → a ≡ x.low *ℤ y.low → b ≡ x.low *ℤ y.high → c ≡ x.high *ℤ y.low → d ≡ x.high *ℤ y.high
    → l ≡ least_of a b c d → g ≡ greatest_of a b c d → low ≡ floor_one l → high ≡ ceil_one g → record { low = low; high = high } ≡ product x y
product_is x y a b c d l g low high ea eb ec ed el eg e f = rw (e, f, el, eg, ea, eb, ec, ed) refl

pub half_least : (r p : ℤ) → unsigned_abs r * 2 ≤ unsigned_abs p + 2 → unsigned_abs p ≤ 2147483648 * 10000000 → unsigned_abs r ≤ 21474836480000000
half_least r p h k = omega (arith, h, k)

less_small : (a b : ℤ) (n j : ℕ) → unsigned_abs a ≤ n → unsigned_abs b ≤ j → unsigned_abs (a -ℤ b) ≤ n + j
less_small a b n j h k = omega (arith, ints)

more_small : (a b : ℤ) (n j : ℕ) → unsigned_abs a ≤ n → unsigned_abs b ≤ j → unsigned_abs (a +ℤ b) ≤ n + j
more_small a b n j h k = omega (arith, ints)

pub hull_within : (p q : Interval) (out m k : ℤ) (n j : ℕ) → IsWithin n p → IsWithin n q → unsigned_abs out ≤ j → m ≡ int_min p.low q.low → k ≡ int_max p.high q.high
    → IsWithin (n + j) (record { low = m -ℤ out; high = k +ℤ out })
hull_within p q out m k n j hp hq h e f = record {
  low = less_small m out n j (rw e (min_small p.low q.low n hp.low hq.low)) h;
  high = more_small k out n j (rw f (max_small p.high q.high n hp.high hq.high)) h;
}

pub low_fits : (p q : Interval) (out m : ℤ) → IsWithin 80000000000000000000000000000 p → IsWithin 80000000000000000000000000000 q
    → unsigned_abs out ≤ 39614081257132168796771975168 → m ≡ int_min p.low q.low → FitsSigned w128 (m -ℤ out)
low_fits p q out m hp hq h e =
    let small : unsigned_abs m ≤ 80000000000000000000000000000 = rw e (min_small p.low q.low 80000000000000000000000000000 hp.low hq.low) in
    fits_signed_from_abs w128 (m -ℤ out) (omega (arith, less_small m out 80000000000000000000000000000 39614081257132168796771975168 small h))

pub high_fits : (p q : Interval) (out k : ℤ) → IsWithin 80000000000000000000000000000 p → IsWithin 80000000000000000000000000000 q
    → unsigned_abs out ≤ 39614081257132168796771975168 → k ≡ int_max p.high q.high → FitsSigned w128 (k +ℤ out)
high_fits p q out k hp hq h e =
    let small : unsigned_abs k ≤ 80000000000000000000000000000 = rw e (max_small p.high q.high 80000000000000000000000000000 hp.high hq.high) in
    fits_signed_from_abs w128 (k +ℤ out) (omega (arith, more_small k out 80000000000000000000000000000 39614081257132168796771975168 small h))

pub scaled_is : (n : ℤ) (x : Ratio) (d a b m k : ℤ) → d ≡ n → a ≡ d *ℤ x.low → b ≡ d *ℤ x.high → m ≡ int_min a b → k ≡ int_max a b
    → record { low = m; high = k } ≡ scaled n x
scaled_is n x d a b m k e f g h i = rw (h, i, f, g, e) refl

pub scaled_within : (a b m k : ℤ) (p : ℕ) → unsigned_abs a ≤ p → unsigned_abs b ≤ p → m ≡ int_min a b → k ≡ int_max a b → IsWithin p (record { low = m; high = k })
scaled_within a b m k p h l e f = record { low = rw e (min_small a b p h l); high = rw f (max_small a b p h l) }

pub less_is : (l : ℤ) (x other by : Interval) → by ≡ across l other → record { low = x.low -ℤ by.high; high = x.high -ℤ by.low } ≡ less l x other
less_is l x other by e = rw e refl

-- ---- squares

pub square_fits : (x : ℤ) → unsigned_abs x ≤ 4611686020574871767 → FitsSigned w128 (x *ℤ x)
square_fits x p = fits_signed_mul w128 x x 4611686020574871767 4611686020574871767 p p (omega arith)

pub square_small : (x : ℤ) → unsigned_abs x ≤ 4611686020574871767 → unsigned_abs (x *ℤ x) ≤ 21267647952365696582663672228493702289
square_small x p = times_small x x 4611686020574871767 4611686020574871767 p p

pub under_one : (l : ℤ) → (pos 100000000000000 -ℤ l *ℤ l) ≤ℤ pos 100000000000000
under_one (pos n) = omega (arith, ints)
under_one (negsuc n) = omega (arith, ints)

pub square_is : (a : ℤ) → a *ℤ a ≡ pos (unsigned_abs a * unsigned_abs a)
square_is (pos n) = refl
square_is (negsuc n) = refl

pair_below : (m n : ℕ) → (pos (m * m) +ℤ pos (n * n)) ≤ℤ pos ((m + n) * (m + n))
pair_below m n = omega (arith, ints)

pub two_squares : (a b : ℤ) → (a *ℤ a +ℤ b *ℤ b) ≤ℤ pos ((unsigned_abs a + unsigned_abs b) * (unsigned_abs a + unsigned_abs b))
two_squares a b = rw (square_is a, square_is b) (pair_below (unsigned_abs a) (unsigned_abs b))

sum_below : (l m n : ℕ) → (pos (l * l) +ℤ pos (m * m) +ℤ pos (n * n)) ≤ℤ pos ((l + m + n) * (l + m + n))
sum_below l m n = omega (arith, ints)

pub three_squares : (a b c : ℤ)
    → (a *ℤ a +ℤ b *ℤ b +ℤ c *ℤ c) ≤ℤ pos ((unsigned_abs a + unsigned_abs b + unsigned_abs c) * (unsigned_abs a + unsigned_abs b + unsigned_abs c))
three_squares a b c = rw (square_is a, square_is b, square_is c) (sum_below (unsigned_abs a) (unsigned_abs b) (unsigned_abs c))

pub less_square : (r l : ℤ) → (r *ℤ r -ℤ l *ℤ l) ≤ℤ pos (unsigned_abs r * unsigned_abs r)
less_square r l = rw (square_is r, square_is l) (omega (arith, ints))

-- ---- quotients

pub quotient_within : (z : ℤ) (n k : ℕ) → 1 ≤ n → unsigned_abs z ≤ k * n → unsigned_abs (int_div_euclid z (pos n)) ≤ k
quotient_within (pos a) n k some h =
    let lt : a / n < k + 1 = div_below a n (k + 1) (omega (arith, some)) (omega (arith, some, h)) in
    omega (arith, lt)
quotient_within (negsuc a) n k some h =
    let lt : a / n < k = div_below a n k (omega (arith, some)) (omega (arith, h)) in
    omega (arith, lt)

-- over any number from 1 on
pub divided_within : (z d q : ℤ) (k : ℕ) → pos 1 ≤ℤ d → unsigned_abs z ≤ k * unsigned_abs d → q ≡ int_div_euclid z d → unsigned_abs q ≤ k
divided_within z (pos n) q k some h e = rw e (quotient_within z n k (omega (arith, ints, some)) h)
divided_within z (negsuc n) q k some h e = absurd (omega (arith, ints, some))

pub divided_less : (z d q : ℤ) → pos 1 ≤ℤ d → q ≡ int_div_euclid z d → unsigned_abs q ≤ unsigned_abs z
divided_less z (pos n) q some e =
    let one : 1 ≤ n = omega (arith, ints, some) in
    rw e (quotient_within z n (unsigned_abs z) one (omega (arith, mul-le-mul_left (unsigned_abs z) one)))
divided_less z (negsuc n) q some e = absurd (omega (arith, ints, some))

-- the one of a slope
pub nearest_within : (over under : ℤ) → unsigned_abs over ≤ 2147483648 → pos 1 ≤ℤ under
    → unsigned_abs (pos 20000000 *ℤ over +ℤ under) ≤ 21474836480000001 * unsigned_abs (pos 2 *ℤ under)
nearest_within over (pos n) p some = omega (arith, ints, p, some)
nearest_within over (negsuc n) p some = absurd (omega (arith, ints, some))

-- that of a share
pub share_within : (i n : ℕ) (w : ℤ) → i ≤ n → unsigned_abs w ≤ 5538318189412 → unsigned_abs (pos i *ℤ w) ≤ 5538318189412 * n
share_within i n w p q = omega (arith, times_small (pos i) w n 5538318189412 p q)

pub share_fits : (i w : ℤ) → unsigned_abs i ≤ 12000000000000000000001 → unsigned_abs w ≤ 5538318189412 → FitsSigned w128 (i *ℤ w)
share_fits i w p q = fits_signed_mul w128 i w 12000000000000000000001 5538318189412 p q (omega arith)
