-- The pivot that is written lies within a micrometre of the turning centre.
use Rattle.std.proofs.Common.{◌≡◌, ℕ, ℤ, pos, negsuc, zero, suc, ◌*◌, ◌≤◌, ◌+ℤ◌, ◌-ℤ◌, ◌*ℤ◌, ◌≤ℤ◌, neg_ℤ, Bool, true, false, List, [], ◌∷◌, arith, refl, subst}
use Rattle.std.specs.Prelude.{unsigned_abs, int_le, int_div, get_or, ◌&&◌, slice_get, if◌then◌else◌}
use Rattle.std.specs.Int.{int_min, int_max, int_div_euclid, int_rem_euclid}
use Rattle.std.specs.List.{list_all, AllByRecursion}
use Rattle.std.proofs.Math.Nat.{mul-le-mul_left, mul-le-mul_right}
use Rattle.std.proofs.lemmas.Int.{ints, clamps, unsigned_abs-mul}
use Rattle.std.proofs.lemmas.Bool.{and_parts}
use Rattle.vcm_hardware.specs.declared.interval.Ratio.{Ratio}
use Rattle.vcm_hardware.specs.declared.interval.Interval.{Interval}
use Rattle.vcm_hardware.specs.declared.angle.Along.{Along}
use Rattle.vcm_hardware.specs.declared.angle.Along.TheVariants.{X, Y, Z}
use Rattle.vcm_hardware.specs.declared.description.Place.{Place}
use Rattle.vcm_hardware.specs.declared.description.Ball.{Ball}
use Rattle.vcm_hardware.specs.inner.Sizes.{IsUnit}
use Rattle.vcm_hardware.specs.Intervals.{floor_one, ceil_one, least_of, greatest_of, product, negative, scaled}
use Rattle.vcm_hardware.specs.Turned.{cosines, just, quarter_cosine, cosine_within, cosine, sine, coordinate_on, turning_by, row}
use Rattle.vcm_hardware.specs.Boxes.{origin, place_of, tip_of, centre, rounded, pivot}
use Rattle.vcm_hardware.specs.Holding.{corner_on, over_axes, IsIn, IsTurn, still_place, near_by, PivotsAreNear}
use Rattle.vcm_hardware.proofs.Products.{mul-sub, sub-mul, swap, scaled_le, unscaled_le, trans}
use Rattle.vcm_hardware.proofs.Turns.{way_between, turned_in, floor_le}
use Rattle.vcm_hardware.proofs.Balls.{back_is}
use Rattle.vcm_hardware.proofs.Held.{on_axes}
use Rattle.vcm_hardware.proofs.Parts.{cosine_unit}
use Rattle.vcm_hardware.proofs.Within.{IsClosePlace, IsCloseBall}
use Rattle.vcm_hardware.proofs.Nearness.{described_is}

-- ---- how wide the numbers of a turn are

-- the ends of a ratio are in order, and at most e apart
pub record IsNarrow (e : ℕ) (x : Ratio) : Type 0 where
  pub order : x.low ≤ℤ x.high
  pub near : x.high ≤ℤ (x.low +ℤ pos e)

abbrev is_narrow : Ratio → Bool
is_narrow x = int_le x.low x.high && int_le x.high (x.low +ℤ pos 1)

from_test : (a b : ℤ) → int_le a b ≡ true → a ≤ℤ b
from_test a b h = grind (arith, ints)

narrow_if : (x : Ratio) → is_narrow x ≡ true → IsNarrow 1 x
narrow_if x h =
    let both = and_parts (int_le x.low x.high) (int_le x.high (x.low +ℤ pos 1)) h in
    record { order = from_test x.low x.high both.0; near = from_test x.high (x.low +ℤ pos 1) both.1 }

narrow_at : (xs : List Ratio) (k : ℕ) (d : Ratio) → list_all is_narrow xs ≡ true → IsNarrow 1 d → IsNarrow 1 (get_or xs k d)
narrow_at [] k d all last = last
narrow_at (x ∷ xs) zero d all last = narrow_if x (and_parts (is_narrow x) (list_all is_narrow xs) all).0
narrow_at (x ∷ xs) (suc k) d all last = narrow_at xs k d (and_parts (is_narrow x) (list_all is_narrow xs) all).1 last

none_narrow : IsNarrow 1 (just 0)
none_narrow = narrow_if (just 0) refl

quarter_narrow : (k : ℕ) → IsNarrow 1 (quarter_cosine k)
quarter_narrow k = narrow_at cosines k (just 0) refl none_narrow

negative_narrow : (e : ℕ) (x : Ratio) → IsNarrow e x → IsNarrow e (negative x)
negative_narrow e x h = record { order = turned x.low x.high h.order; near = back x.low x.high e h.near }
  where
    turned : (a b : ℤ) → a ≤ℤ b → neg_ℤ b ≤ℤ neg_ℤ a
    turned a b h = omega (arith, ints)

    back : (a b : ℤ) (e : ℕ) → b ≤ℤ (a +ℤ pos e) → neg_ℤ a ≤ℤ (neg_ℤ b +ℤ pos e)
    back a b e h = omega (arith, ints)

one_of_four : (P : Ratio → Type 0) (a b c : Bool) (p q r s : Ratio) → P p → P q → P r → P s → P (if a then p else if b then q else if c then r else s)
one_of_four P true b c p q r s hp hq hr hs = hp
one_of_four P false true c p q r s hp hq hr hs = hq
one_of_four P false false true p q r s hp hq hr hs = hr
one_of_four P false false false p q r s hp hq hr hs = hs

within_narrow : (k : ℤ) → IsNarrow 1 (cosine_within k)
within_narrow k =
    one_of_four (IsNarrow 1) (int_le k (pos 12)) (int_le k (pos 24)) (int_le k (pos 36)) _ _ _ _ (quarter_narrow (unsigned_abs k))
    (negative_narrow 1 (quarter_cosine (unsigned_abs (pos 24 -ℤ k))) (quarter_narrow (unsigned_abs (pos 24 -ℤ k))))
    (negative_narrow 1 (quarter_cosine (unsigned_abs (k -ℤ pos 24))) (quarter_narrow (unsigned_abs (k -ℤ pos 24)))) (quarter_narrow (unsigned_abs (pos 48 -ℤ k)))

cosine_narrow : (k : ℤ) → IsNarrow 1 (cosine k)
cosine_narrow k = within_narrow (int_rem_euclid k (pos 48))

-- ---- products

-- so far the four products of two such ratios lie off one another: a and b are the parts that a step of one of the two adds
module _ (o a b e : ℤ) (ha : unsigned_abs a ≤ 10000000) (hb : unsigned_abs b ≤ 10000000) (he : unsigned_abs e ≤ 1) where
  least_near : (p : ℤ) → p ≤ℤ (o +ℤ pos 20000001) → p ≤ℤ (o +ℤ a +ℤ pos 20000001) → p ≤ℤ (o +ℤ b +ℤ pos 20000001) → p ≤ℤ (o +ℤ a +ℤ b +ℤ e +ℤ pos 20000001)
      → p ≤ℤ (least_of o (o +ℤ a) (o +ℤ b) (o +ℤ a +ℤ b +ℤ e) +ℤ pos 20000001)
  least_near p h i j k = by p o (o +ℤ a) (o +ℤ b) (o +ℤ a +ℤ b +ℤ e) h i j k
    where
      by : (p q r s t : ℤ) → p ≤ℤ (q +ℤ pos 20000001) → p ≤ℤ (r +ℤ pos 20000001) → p ≤ℤ (s +ℤ pos 20000001) → p ≤ℤ (t +ℤ pos 20000001)
          → p ≤ℤ (least_of q r s t +ℤ pos 20000001)
      by p q r s t h i j k = omega (arith, ints, clamps)

  first : o ≤ℤ (least_of o (o +ℤ a) (o +ℤ b) (o +ℤ a +ℤ b +ℤ e) +ℤ pos 20000001)
  first = least_near o (omega (arith, ints)) (omega (arith, ints)) (omega (arith, ints)) (omega (arith, ints))

  second : (o +ℤ a) ≤ℤ (least_of o (o +ℤ a) (o +ℤ b) (o +ℤ a +ℤ b +ℤ e) +ℤ pos 20000001)
  second = least_near (o +ℤ a) (omega (arith, ints)) (omega (arith, ints)) (omega (arith, ints)) (omega (arith, ints))

  third : (o +ℤ b) ≤ℤ (least_of o (o +ℤ a) (o +ℤ b) (o +ℤ a +ℤ b +ℤ e) +ℤ pos 20000001)
  third = least_near (o +ℤ b) (omega (arith, ints)) (omega (arith, ints)) (omega (arith, ints)) (omega (arith, ints))

  fourth : (o +ℤ a +ℤ b +ℤ e) ≤ℤ (least_of o (o +ℤ a) (o +ℤ b) (o +ℤ a +ℤ b +ℤ e) +ℤ pos 20000001)
  fourth = least_near (o +ℤ a +ℤ b +ℤ e) (omega (arith, ints)) (omega (arith, ints)) (omega (arith, ints)) (omega (arith, ints))

  four_near : greatest_of o (o +ℤ a) (o +ℤ b) (o +ℤ a +ℤ b +ℤ e) ≤ℤ (least_of o (o +ℤ a) (o +ℤ b) (o +ℤ a +ℤ b +ℤ e) +ℤ pos 20000001)
  four_near = by o (o +ℤ a) (o +ℤ b) (o +ℤ a +ℤ b +ℤ e) (least_of o (o +ℤ a) (o +ℤ b) (o +ℤ a +ℤ b +ℤ e) +ℤ pos 20000001) first second third fourth
    where
      by : (q r s t z : ℤ) → q ≤ℤ z → r ≤ℤ z → s ≤ℤ z → t ≤ℤ z → greatest_of q r s t ≤ℤ z
      by q r s t z h i j k = omega (arith, ints, clamps)

  four_order : least_of o (o +ℤ a) (o +ℤ b) (o +ℤ a +ℤ b +ℤ e) ≤ℤ greatest_of o (o +ℤ a) (o +ℤ b) (o +ℤ a +ℤ b +ℤ e)
  four_order = trans _ o _ (under o (o +ℤ a) (o +ℤ b) (o +ℤ a +ℤ b +ℤ e)) (over o (o +ℤ a) (o +ℤ b) (o +ℤ a +ℤ b +ℤ e))
    where
      under : (q r s t : ℤ) → least_of q r s t ≤ℤ q
      under q r s t = omega (arith, ints, clamps)

      over : (q r s t : ℤ) → q ≤ℤ greatest_of q r s t
      over q r s t = omega (arith, ints, clamps)

step_small : (x y : ℤ) (m : ℕ) → unsigned_abs x ≤ m → unsigned_abs y ≤ 1 → unsigned_abs (x *ℤ y) ≤ m
step_small x y m h k = by (unsigned_abs x) (unsigned_abs y) (unsigned_abs (x *ℤ y)) (unsigned_abs-mul x y) (mul-le-mul_left (unsigned_abs x) k) h
  where
    by : (a b p : ℕ) → p ≡ a * b → a * b ≤ a * 1 → a ≤ m → p ≤ m
    by a b p e f g = omega (arith, e, f, g)

one_step : (x : Ratio) → IsNarrow 1 x → unsigned_abs (x.high -ℤ x.low) ≤ 1
one_step x h = by x.low x.high h.order h.near
  where
    by : (a b : ℤ) → a ≤ℤ b → b ≤ℤ (a +ℤ pos 1) → unsigned_abs (b -ℤ a) ≤ 1
    by a b h k = omega (arith, ints)

-- the four products
more_of : (x l h : ℤ) → x *ℤ h ≡ x *ℤ l +ℤ x *ℤ (h -ℤ l)
more_of x l h = by (x *ℤ h) (x *ℤ l) _ (mul-sub x h l)
  where
    by : (a b c : ℤ) → c ≡ a -ℤ b → a ≡ b +ℤ c
    by a b c e = omega (arith, ints)

more_by : (l h y : ℤ) → h *ℤ y ≡ l *ℤ y +ℤ (h -ℤ l) *ℤ y
more_by l h y = by (h *ℤ y) (l *ℤ y) _ (sub-mul h l y)
  where
    by : (a b c : ℤ) → c ≡ a -ℤ b → a ≡ b +ℤ c
    by a b c e = omega (arith, ints)

more_both : (l h m k : ℤ) → h *ℤ k ≡ l *ℤ m +ℤ l *ℤ (k -ℤ m) +ℤ (h -ℤ l) *ℤ m +ℤ (h -ℤ l) *ℤ (k -ℤ m)
more_both l h m k = by _ _ _ (l *ℤ m) (l *ℤ (k -ℤ m)) ((h -ℤ l) *ℤ m) ((h -ℤ l) *ℤ (k -ℤ m)) (more_by l h k) (more_of l m k) (more_of (h -ℤ l) m k)
  where
    by : (p q r a b c d : ℤ) → p ≡ q +ℤ r → q ≡ a +ℤ b → r ≡ c +ℤ d → p ≡ a +ℤ b +ℤ c +ℤ d
    by p q r a b c d e f g = omega (arith, ints)

floor_more : (z : ℤ) → z ≤ℤ (pos 10000000 *ℤ floor_one z +ℤ pos 9999999)
floor_more (pos n) = omega (arith, ints)
floor_more (negsuc n) = omega (arith, ints)

rounded_apart : (g l f c k : ℤ) → g ≤ℤ (l +ℤ pos 20000001) → l ≤ℤ (pos 10000000 *ℤ f +ℤ pos 9999999) → neg_ℤ g ≤ℤ (pos 10000000 *ℤ k +ℤ pos 9999999) → c ≡ neg_ℤ k → c ≤ℤ (f +ℤ pos 3)
rounded_apart g l f c k h i j e = omega (arith, ints)

rounded_order : (g l f c k : ℤ) → l ≤ℤ g → (pos 10000000 *ℤ f) ≤ℤ l → (pos 10000000 *ℤ k) ≤ℤ neg_ℤ g → c ≡ neg_ℤ k → f ≤ℤ c
rounded_order g l f c k h i j e = omega (arith, ints)

product_narrow : (x y : Ratio) → IsUnit x → IsUnit y → IsNarrow 1 x → IsNarrow 1 y → IsNarrow 3 (product x y)
product_narrow x y ux uy nx ny =
    let o = x.low *ℤ y.low in
    let a = x.low *ℤ (y.high -ℤ y.low) in
    let b = (x.high -ℤ x.low) *ℤ y.low in
    let e = (x.high -ℤ x.low) *ℤ (y.high -ℤ y.low) in
    let ha = step_small x.low (y.high -ℤ y.low) 10000000 ux.low (one_step y ny) in
    let hb : unsigned_abs b ≤ 10000000 = turned (x.high -ℤ x.low) y.low (one_step x nx) uy.low in
    let he = step_small (x.high -ℤ x.low) (y.high -ℤ y.low) 1 (one_step x nx) (one_step y ny) in
    let l = least_of o (o +ℤ a) (o +ℤ b) (o +ℤ a +ℤ b +ℤ e) in
    let g = greatest_of o (o +ℤ a) (o +ℤ b) (o +ℤ a +ℤ b +ℤ e) in
    let near = four_near o a b e ha hb he in
    let order = four_order o a b e ha hb he in
    let made : IsNarrow 3 (record { low = floor_one l; high = ceil_one g }) = record {
      order = rounded_order g l (floor_one l) (ceil_one g) (floor_one (neg_ℤ g)) order (floor_le l) (floor_le (neg_ℤ g)) refl;
      near = rounded_apart g l (floor_one l) (ceil_one g) (floor_one (neg_ℤ g)) near (floor_more l) (floor_more (neg_ℤ g)) refl;
    } in
    rw (more_of x.low y.low y.high, more_by x.low x.high y.low, more_both x.low x.high y.low y.high) made
  where
    turned : (w z : ℤ) → unsigned_abs w ≤ 1 → unsigned_abs z ≤ 10000000 → unsigned_abs (w *ℤ z) ≤ 10000000
    turned w z h k = by (unsigned_abs w) (unsigned_abs z) (unsigned_abs (w *ℤ z)) (unsigned_abs-mul w z) (mul-le-mul_right (unsigned_abs z) h) k
      where
        by : (a b p : ℕ) → p ≡ a * b → a * b ≤ 1 * b → b ≤ 10000000 → p ≤ 10000000
        by a b p e f g = omega (arith, e, f, g)

-- ---- how wide a turned place is

scaled_narrow : (n : ℤ) (e : ℕ) (x : Ratio) → unsigned_abs n ≤ 1000000 → IsNarrow e x → (scaled n x).high ≤ℤ ((scaled n x).low +ℤ pos (1000000 * e))
scaled_narrow n e x h k =
    by (n *ℤ x.low) (n *ℤ x.high) (unsigned_abs n * unsigned_abs (x.high -ℤ x.low)) (1000000 * e) _ (mul-sub n x.high x.low) (unsigned_abs-mul n (x.high -ℤ x.low))
    (times (unsigned_abs n) (unsigned_abs (x.high -ℤ x.low)) e h (apart x.low x.high e k.order k.near))
  where
    apart : (a b : ℤ) (e : ℕ) → a ≤ℤ b → b ≤ℤ (a +ℤ pos e) → unsigned_abs (b -ℤ a) ≤ e
    apart a b e h k = omega (arith, ints)

    times : (a b e : ℕ) → a ≤ 1000000 → b ≤ e → a * b ≤ 1000000 * e
    times a b e h k = omega (arith, mul-le-mul_right b h, mul-le-mul_left 1000000 k)

    by : (p q : ℤ) (m k : ℕ) (d : ℤ) → d ≡ q -ℤ p → unsigned_abs d ≡ m → m ≤ k → int_max p q ≤ℤ (int_min p q +ℤ pos k)
    by p q m k d e f g = omega (arith, ints, clamps)

row_narrow : (x y z : Ratio) (a b c : ℤ) → unsigned_abs a ≤ 1000000 → unsigned_abs b ≤ 1000000 → unsigned_abs c ≤ 1000000 → IsNarrow 3 x → IsNarrow 3 y → IsNarrow 3 z
    → (row x y z a b c).high ≤ℤ ((row x y z a b c).low +ℤ pos 10000000)
row_narrow x y z a b c ha hb hc hx hy hz =
    sums _ _ _ (scaled a x).low (scaled b y).low (scaled c z).low (scaled_narrow a 3 x ha hx) (scaled_narrow b 3 y hb hy) (scaled_narrow c 3 z hc hz)
  where
    sums : (a b c d e f : ℤ) → a ≤ℤ (d +ℤ pos 3000000) → b ≤ℤ (e +ℤ pos 3000000) → c ≤ℤ (f +ℤ pos 3000000) → (a +ℤ b +ℤ c) ≤ℤ (d +ℤ e +ℤ f +ℤ pos 10000000)
    sums a b c d e f h i j = omega (arith, ints)

wider : (e : ℕ) (x : Ratio) → e ≤ 3 → IsNarrow e x → IsNarrow 3 x
wider e x h k = record { order = k.order; near = by x.high x.low e h k.near }
  where
    by : (a b : ℤ) (e : ℕ) → e ≤ 3 → a ≤ℤ (b +ℤ pos e) → a ≤ℤ (b +ℤ pos 3)
    by a b e h k = omega (arith, ints)

module _ (a b : ℤ) (tip : Place) (close : IsClosePlace tip) where
  abbrev there : Along → Interval
  there i = coordinate_on (centre (turning_by a b) tip) i

  back_small : (z : ℤ) → unsigned_abs z ≤ 1000000 → unsigned_abs (pos 0 -ℤ z) ≤ 1000000
  back_small z h = omega (arith, ints)

  one_more : (k : ℤ) → IsNarrow 3 (cosine k)
  one_more k = wider 1 (cosine k) (omega arith) (cosine_narrow k)

  both_narrow : (j k : ℤ) → IsNarrow 3 (product (cosine j) (cosine k))
  both_narrow j k = product_narrow (cosine j) (cosine k) (cosine_unit j) (cosine_unit k) (cosine_narrow j) (cosine_narrow k)

  centre_narrow : (i : Along) → (there i).high ≤ℤ ((there i).low +ℤ pos 10000000)
  centre_narrow X =
      row_narrow (cosine b) (negative (product (sine b) (cosine a))) (negative (product (sine b) (sine a))) (pos 0 -ℤ tip.x) (pos 0 -ℤ tip.y) (pos 0 -ℤ tip.z)
      (back_small tip.x close.x) (back_small tip.y close.y) (back_small tip.z close.z) (one_more b)
      (negative_narrow 3 (product (sine b) (cosine a)) (both_narrow (pos 12 -ℤ b) a))
      (negative_narrow 3 (product (sine b) (sine a)) (both_narrow (pos 12 -ℤ b) (pos 12 -ℤ a)))
  centre_narrow Y =
      row_narrow (sine b) (product (cosine b) (cosine a)) (product (cosine b) (sine a)) (pos 0 -ℤ tip.x) (pos 0 -ℤ tip.y) (pos 0 -ℤ tip.z)
      (back_small tip.x close.x) (back_small tip.y close.y) (back_small tip.z close.z) (one_more (pos 12 -ℤ b)) (both_narrow b a) (both_narrow b (pos 12 -ℤ a))
  centre_narrow Z =
      row_narrow (just 0) (negative (sine a)) (cosine a) (pos 0 -ℤ tip.x) (pos 0 -ℤ tip.y) (pos 0 -ℤ tip.z)
      (back_small tip.x close.x) (back_small tip.y close.y) (back_small tip.z close.z) (wider 1 (just 0) (omega arith) none_narrow)
      (negative_narrow 3 (sine a) (one_more (pos 12 -ℤ a))) (one_more a)

-- ---- the nearest whole number

halves_low : (z : ℤ) → (pos 20000000 *ℤ int_div_euclid z (pos 20000000)) ≤ℤ z
halves_low (pos n) = omega (arith, ints)
halves_low (negsuc n) = omega (arith, ints)

halves_high : (z : ℤ) → z ≤ℤ (pos 20000000 *ℤ int_div_euclid z (pos 20000000) +ℤ pos 19999999)
halves_high (pos n) = omega (arith, ints)
halves_high (negsuc n) = omega (arith, ints)

-- it is within 1 of each number of a narrow interval
module _ (low high : ℤ) (narrow : high ≤ℤ (low +ℤ pos 10000000)) (n : ℕ) (v : ℤ) (from : (pos n *ℤ low) ≤ℤ (pos 10000000 *ℤ v)) (to : (pos 10000000 *ℤ v) ≤ℤ (pos n *ℤ high)) where
  under : (pos 10000000 *ℤ (rounded low high -ℤ pos 1)) ≤ℤ low
  under = by (rounded low high) low high (halves_low (low +ℤ high +ℤ pos 10000000)) narrow
    where
      by : (c l h : ℤ) → (pos 20000000 *ℤ c) ≤ℤ (l +ℤ h +ℤ pos 10000000) → h ≤ℤ (l +ℤ pos 10000000) → (pos 10000000 *ℤ (c -ℤ pos 1)) ≤ℤ l
      by c l h i j = omega (arith, ints)

  over : high ≤ℤ (pos 10000000 *ℤ (rounded low high +ℤ pos 1))
  over = by (rounded low high) low high (halves_high (low +ℤ high +ℤ pos 10000000)) narrow
    where
      by : (c l h : ℤ) → (l +ℤ h +ℤ pos 10000000) ≤ℤ (pos 20000000 *ℤ c +ℤ pos 19999999) → h ≤ℤ (l +ℤ pos 10000000) → h ≤ℤ (pos 10000000 *ℤ (c +ℤ pos 1))
      by c l h i j = omega (arith, ints)

  pub near_one : IsIn n v (near_by (rounded low high))
  near_one = record {
    low = unscaled_le 10000000 (pos n *ℤ (rounded low high -ℤ pos 1)) v (omega arith)
        (trans _ _ _ (subst (λ (z : ℤ). z ≤ℤ (pos n *ℤ low)) (swap (pos n) (pos 10000000) (rounded low high -ℤ pos 1)) (scaled_le n _ low under)) from);
    high = unscaled_le 10000000 v (pos n *ℤ (rounded low high +ℤ pos 1)) (omega arith)
        (trans _ _ _ to (subst (λ (z : ℤ). (pos n *ℤ high) ≤ℤ z) (swap (pos n) (pos 10000000) (rounded low high +ℤ pos 1)) (scaled_le n high _ over)));
  }

module _ (a b : ℤ) (tip : Place) (close : IsClosePlace tip) (n : ℕ) (m : Along → Along → ℤ) (turn : IsTurn (turning_by a b) n m) where
  -- the turning centre seen from the tip
  seen_is : (i : Along) → over_axes (λ k. m k i *ℤ way_between tip origin k) ≡ still_place m n 1 tip (λ k. pos 0) i
  seen_is i = by _ _ (n) (back_is 1 (λ (k : Along). m k i) tip)
    where
      by : (x y : ℤ) (n : ℕ) → pos 1 *ℤ x ≡ neg_ℤ y → x ≡ pos n *ℤ pos 0 -ℤ y
      by x y n e = omega (arith, ints)

  abbrev written : Along → ℤ
  written i = corner_on (pivot (centre (turning_by a b) tip)) i

  on_axis : (i : Along) → IsIn n (still_place m n 1 tip (λ k. pos 0) i) (near_by (rounded (there a b tip close i).low (there a b tip close i).high))
  on_axis i =
      let inside = turned_in (turning_by a b) n m turn origin tip i in
      subst (λ (z : ℤ). IsIn n z (near_by (rounded (there a b tip close i).low (there a b tip close i).high)))
      (seen_is i) (near_one (there a b tip close i).low (there a b tip close i).high (centre_narrow a b tip close i) n _ inside.low inside.high)

  pub pivot_near : (i : Along) → IsIn n (still_place m n 1 tip (λ k. pos 0) i) (near_by (written i))
  pivot_near = on_axes (λ i. IsIn n (still_place m n 1 tip (λ k. pos 0) i) (near_by (written i))) (on_axis X) (on_axis Y) (on_axis Z)

-- ---- the tip of a probe

origin_close : IsClosePlace origin
origin_close = record { x = omega arith; y = omega arith; z = omega arith }

tip_close : (balls : List Ball) (k : ℕ) → AllByRecursion IsCloseBall balls → IsClosePlace (place_of (slice_get balls k))
tip_close [] k h = origin_close
tip_close (b ∷ balls) zero h = h.0.place
tip_close (b ∷ balls) (suc k) h = tip_close balls k h.1

pub pivots_are_near : PivotsAreNear
pivots_are_near bytes d read choice n m turn i =
    pivot_near (int_div choice.a (pos 7500)) (int_div choice.b (pos 7500) +ℤ int_div d.hanging.turn (pos 7500)) (tip_of d.hanging.balls choice) (tip_close d.hanging.balls choice.tip (described_is bytes d read).near.balls) n m turn i
