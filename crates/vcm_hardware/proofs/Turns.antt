-- Places and directions as a turn takes them, and the intervals in which they lie.
use Rattle.std.proofs.Common.{◌≡◌, ℕ, ℤ, pos, negsuc, ◌+◌, ◌*◌, ◌≤◌, ◌+ℤ◌, ◌-ℤ◌, ◌*ℤ◌, ◌≤ℤ◌, neg_ℤ, arith, ap, refl, sym, subst, ◌∙◌}
use Rattle.std.specs.Prelude.{unsigned_abs}
use Rattle.std.specs.Int.{int_min, int_max}
use Rattle.std.proofs.Math.IntN.{*ℤ_comm}
use Rattle.std.proofs.lemmas.Int.{ints, clamps}
use Rattle.vcm_num.proofs.Ring.{mul-assoc, mul-add_three}
use Rattle.vcm_hardware.specs.declared.interval.Ratio.{Ratio}
use Rattle.vcm_hardware.specs.declared.interval.Interval.{Interval}
use Rattle.vcm_hardware.specs.declared.angle.Along.{Along}
use Rattle.vcm_hardware.specs.declared.angle.Along.TheVariants.{X, Y, Z}
use Rattle.vcm_hardware.specs.declared.angle.Turning.{Turning}
use Rattle.vcm_hardware.specs.declared.description.Place.{Place}
use Rattle.vcm_hardware.specs.Intervals.{floor_one, ceil_one, scaled, sum_of, wide, least_size, across, less}
use Rattle.vcm_hardware.specs.Turned.{row, coordinate_on, turned}
use Rattle.vcm_hardware.specs.Holding.{place_on, over_axes, IsIn, IsTurn}
use Rattle.vcm_hardware.proofs.Floors.{square_is}
use Rattle.vcm_hardware.proofs.Products.{mul-sub, sub-mul, mul-zero, mul-neg, swap, scaled_le, unscaled_le, trans, max_holds, product_low, product_high}

-- ---- sums over the axes

sum3 : {a b c d e f : ℤ} → a ≡ d → b ≡ e → c ≡ f → a +ℤ b +ℤ c ≡ d +ℤ e +ℤ f
sum3 p q r = rw (p, q, r) refl

pub turn_over : (p q : Along → ℤ) → over_axes (λ k. p k *ℤ q k) ≡ over_axes (λ k. q k *ℤ p k)
turn_over p q = sum3 (*ℤ_comm (p X) (q X)) (*ℤ_comm (p Y) (q Y)) (*ℤ_comm (p Z) (q Z))

-- a multiple of a direction
pub stretch_is : (e : ℤ) (u w : Along → ℤ) → over_axes (λ k. (e *ℤ u k) *ℤ w k) ≡ e *ℤ over_axes (λ k. u k *ℤ w k)
stretch_is e u w =
    sum3 (mul-assoc e (u X) (w X)) (mul-assoc e (u Y) (w Y)) (mul-assoc e (u Z) (w Z)) ∙ sym (mul-add_three e (u X *ℤ w X) (u Y *ℤ w Y) (u Z *ℤ w Z))

lean_one : (e l u v w : ℤ) → (e *ℤ u -ℤ l *ℤ v) *ℤ w ≡ e *ℤ (u *ℤ w) -ℤ l *ℤ (v *ℤ w)
lean_one e l u v w = sub-mul (e *ℤ u) (l *ℤ v) w ∙ ap (λ z. z -ℤ (l *ℤ v) *ℤ w) (mul-assoc e u w) ∙ ap (λ z. e *ℤ (u *ℤ w) -ℤ z) (mul-assoc l v w)

differences : (a b c p q r u v w s t : ℤ) → a ≡ p -ℤ u → b ≡ q -ℤ v → c ≡ r -ℤ w → s ≡ p +ℤ q +ℤ r → t ≡ u +ℤ v +ℤ w → a +ℤ b +ℤ c ≡ s -ℤ t
differences a b c p q r u v w s t ea eb ec es et = omega (arith, ints)

-- the difference of two multiples
pub lean_is : (e l : ℤ) (u v w : Along → ℤ)
    → over_axes (λ k. (e *ℤ u k -ℤ l *ℤ v k) *ℤ w k) ≡ e *ℤ over_axes (λ k. u k *ℤ w k) -ℤ l *ℤ over_axes (λ k. v k *ℤ w k)
lean_is e l u v w =
    differences _ _ _ (e *ℤ (u X *ℤ w X)) (e *ℤ (u Y *ℤ w Y)) (e *ℤ (u Z *ℤ w Z)) (l *ℤ (v X *ℤ w X)) (l *ℤ (v Y *ℤ w Y)) (l *ℤ (v Z *ℤ w Z)) _ _
    (lean_one e l (u X) (v X) (w X)) (lean_one e l (u Y) (v Y) (w Y)) (lean_one e l (u Z) (v Z) (w Z))
    (mul-add_three e (u X *ℤ w X) (u Y *ℤ w Y) (u Z *ℤ w Z)) (mul-add_three l (v X *ℤ w X) (v Y *ℤ w Y) (v Z *ℤ w Z))

-- the squares of a direction, as natural numbers
pub squares_sum : (g : Along → ℤ) → over_axes (λ k. g k *ℤ g k)
    ≡ pos (unsigned_abs (g X) * unsigned_abs (g X) + unsigned_abs (g Y) * unsigned_abs (g Y) + unsigned_abs (g Z) * unsigned_abs (g Z))
squares_sum g = rw (square_is (g X), square_is (g Y), square_is (g Z)) refl

pub whole_number : (m k : ℕ) (z : ℤ) → z ≡ pos m → z ≡ pos k → m ≡ k
whole_number m k z p q = omega (arith, ints)

-- a row of a turn, in ten-millionths, has the length of 1
pub stretch_squares : (n : ℕ) (u : Along → ℤ) → over_axes (λ k. u k *ℤ u k) ≡ pos (n * n) →
    unsigned_abs (pos 10000000 *ℤ u X) * unsigned_abs (pos 10000000 *ℤ u X) + unsigned_abs (pos 10000000 *ℤ u Y) * unsigned_abs (pos 10000000 *ℤ u Y)
    + unsigned_abs (pos 10000000 *ℤ u Z) * unsigned_abs (pos 10000000 *ℤ u Z) ≡ n * n * 100000000000000
stretch_squares n u one =
    let g = λ (k : Along). pos 10000000 *ℤ u k in
    let inner : over_axes (λ k. u k *ℤ g k) ≡ pos 10000000 *ℤ pos (n * n) = turn_over u g ∙ stretch_is (pos 10000000) u u ∙ ap (λ z. pos 10000000 *ℤ z) one in
    let all : over_axes (λ k. g k *ℤ g k) ≡ pos 10000000 *ℤ (pos 10000000 *ℤ pos (n * n)) = stretch_is (pos 10000000) u g ∙ ap (λ z. pos 10000000 *ℤ z) inner in
    whole_number _ (n * n * 100000000000000) _ (squares_sum g) (all ∙ ap pos (collect (n * n)))
  where
    collect : (k : ℕ) → 10000000 * (10000000 * k) ≡ k * 100000000000000
    collect k = omega arith

-- the difference of two multiples
abbrev pub lean : ℤ → ℤ → (Along → ℤ) → (Along → ℤ) → Along → ℤ
lean e l u v k = e *ℤ u k -ℤ l *ℤ v k

minus_none : (a z : ℤ) → z ≡ pos 0 → a -ℤ z ≡ a
minus_none a z e = omega (arith, ints)

none_minus : (z a : ℤ) → z ≡ pos 0 → z -ℤ a ≡ neg_ℤ a
none_minus z a e = omega (arith, ints)

less_negative : (a b : ℤ) (m k : ℕ) → a ≡ pos m → b ≡ neg_ℤ (pos k) → a -ℤ b ≡ pos (m + k)
less_negative a b m k e f = omega (arith, ints)

-- that of two rows square to each other, one of them l times: the square of its length is 1 and the square of l
pub lean_squares : (n : ℕ) (l : ℤ) (u v : Along → ℤ) → over_axes (λ k. u k *ℤ u k) ≡ pos (n * n) → over_axes (λ k. u k *ℤ v k) ≡ pos 0
    → over_axes (λ k. v k *ℤ u k) ≡ pos 0 → over_axes (λ k. v k *ℤ v k) ≡ pos (n * n) →
    unsigned_abs (lean (pos 10000000) l u v X) * unsigned_abs (lean (pos 10000000) l u v X)
    + unsigned_abs (lean (pos 10000000) l u v Y) * unsigned_abs (lean (pos 10000000) l u v Y)
    + unsigned_abs (lean (pos 10000000) l u v Z) * unsigned_abs (lean (pos 10000000) l u v Z)
    ≡ n * n * (100000000000000 + unsigned_abs l * unsigned_abs l)
lean_squares n l u v uu uv vu vv =
    let e = pos 10000000 in
    let one = pos (n * n) in
    let g = lean e l u v in
    let ug : over_axes (λ k. u k *ℤ g k) ≡ e *ℤ one -ℤ l *ℤ pos 0 =
    turn_over u g ∙ lean_is e l u v u ∙ ap (λ z. e *ℤ z -ℤ l *ℤ over_axes (λ k. v k *ℤ u k)) uu ∙ ap (λ z. e *ℤ one -ℤ l *ℤ z) vu in
    let vg : over_axes (λ k. v k *ℤ g k) ≡ e *ℤ pos 0 -ℤ l *ℤ one =
    turn_over v g ∙ lean_is e l u v v ∙ ap (λ z. e *ℤ z -ℤ l *ℤ over_axes (λ k. v k *ℤ v k)) uv ∙ ap (λ z. e *ℤ pos 0 -ℤ l *ℤ z) vv in
    let gg : over_axes (λ k. g k *ℤ g k) ≡ e *ℤ (e *ℤ one -ℤ l *ℤ pos 0) -ℤ l *ℤ (e *ℤ pos 0 -ℤ l *ℤ one) =
    lean_is e l u v g ∙ ap (λ z. e *ℤ z -ℤ l *ℤ over_axes (λ k. v k *ℤ g k)) ug ∙ ap (λ z. e *ℤ (e *ℤ one -ℤ l *ℤ pos 0) -ℤ l *ℤ z) vg in
    let first : e *ℤ (e *ℤ one -ℤ l *ℤ pos 0) ≡ e *ℤ (e *ℤ one) = ap (λ z. e *ℤ z) (minus_none (e *ℤ one) (l *ℤ pos 0) (mul-zero l)) in
    let second : l *ℤ (e *ℤ pos 0 -ℤ l *ℤ one) ≡ neg_ℤ (pos ((unsigned_abs l * unsigned_abs l) * (n * n))) =
    ap (λ z. l *ℤ z) (none_minus (e *ℤ pos 0) (l *ℤ one) (mul-zero e)) ∙ mul-neg l (l *ℤ one)
    ∙ ap neg_ℤ (sym (mul-assoc l l one) ∙ ap (λ z. z *ℤ one) (square_is l)) in
    let all = gg ∙ less_negative _ _ (10000000 * (10000000 * (n * n))) ((unsigned_abs l * unsigned_abs l) * (n * n)) first second in
    whole_number _ _ _ (squares_sum g) (all ∙ ap pos (collect (n * n) (unsigned_abs l * unsigned_abs l)))
  where
    collect : (k j : ℕ) → 10000000 * (10000000 * k) + j * k ≡ k * (100000000000000 + j)
    collect k j = omega arith

-- ---- what lies in intervals

pub in_scaled : (n : ℕ) (v a : ℤ) (x : Ratio) → IsIn n v (wide x) → IsIn n (a *ℤ v) (scaled a x)
in_scaled n v a x h = record { low = product_low a x.low x.high v n h.low h.high; high = product_high a x.low x.high v n h.low h.high }

three_low : (s a b c d e f : ℤ) → s ≡ a +ℤ b +ℤ c → a ≤ℤ d → b ≤ℤ e → c ≤ℤ f → s ≤ℤ (d +ℤ e +ℤ f)
three_low s a b c d e f is p q r = omega (arith, ints)

three_high : (s a b c d e f : ℤ) → s ≡ a +ℤ b +ℤ c → d ≤ℤ a → e ≤ℤ b → f ≤ℤ c → (d +ℤ e +ℤ f) ≤ℤ s
three_high s a b c d e f is p q r = omega (arith, ints)

in_sum : (n : ℕ) (a b c : ℤ) (x y z : Interval) → IsIn n a x → IsIn n b y → IsIn n c z → IsIn n (a +ℤ b +ℤ c) (sum_of x y z)
in_sum n a b c x y z p q r = record {
  low = three_low _ _ _ _ a b c (mul-add_three (pos n) x.low y.low z.low) p.low q.low r.low;
  high = three_high _ _ _ _ a b c (mul-add_three (pos n) x.high y.high z.high) p.high q.high r.high;
}

turn_factor : (e u a : ℤ) → a *ℤ (e *ℤ u) ≡ e *ℤ (u *ℤ a)
turn_factor e u a = swap a e u ∙ ap (λ z. e *ℤ z) (*ℤ_comm a u)

in_row : (n : ℕ) (e u v w a b c : ℤ) (x y z : Ratio) → IsIn n (e *ℤ u) (wide x) → IsIn n (e *ℤ v) (wide y) → IsIn n (e *ℤ w) (wide z)
    → IsIn n (e *ℤ (u *ℤ a +ℤ v *ℤ b +ℤ w *ℤ c)) (row x y z a b c)
in_row n e u v w a b c x y z p q r =
    let is : a *ℤ (e *ℤ u) +ℤ b *ℤ (e *ℤ v) +ℤ c *ℤ (e *ℤ w) ≡ e *ℤ (u *ℤ a +ℤ v *ℤ b +ℤ w *ℤ c) =
    sum3 (turn_factor e u a) (turn_factor e v b) (turn_factor e w c) ∙ sym (mul-add_three e (u *ℤ a) (v *ℤ b) (w *ℤ c)) in
    subst (λ (h : ℤ). IsIn n h (row x y z a b c)) is
    (in_sum n (a *ℤ (e *ℤ u)) (b *ℤ (e *ℤ v)) (c *ℤ (e *ℤ w)) (scaled a x) (scaled b y) (scaled c z) (in_scaled n (e *ℤ u) a x p) (in_scaled n (e *ℤ v) b y q)
    (in_scaled n (e *ℤ w) c z r))

-- the way from the tip to a place
abbrev pub way_between : Place → Place → Along → ℤ
way_between tip at k = place_on at k -ℤ place_on tip k

-- where a place lies once it is turned
pub turned_in : (t : Turning) (n : ℕ) (m : Along → Along → ℤ) → IsTurn t n m → (at tip : Place) (i : Along)
    → IsIn n (pos 10000000 *ℤ over_axes (λ k. m k i *ℤ way_between tip at k)) (coordinate_on (turned t at tip) i)
turned_in t n m h at tip X =
    in_row n (pos 10000000) (m X X) (m Y X) (m Z X) (at.x -ℤ tip.x) (at.y -ℤ tip.y) (at.z -ℤ tip.z) t.x.x t.y.x t.z.x (h.within X X) (h.within Y X) (h.within Z X)
turned_in t n m h at tip Y =
    in_row n (pos 10000000) (m X Y) (m Y Y) (m Z Y) (at.x -ℤ tip.x) (at.y -ℤ tip.y) (at.z -ℤ tip.z) t.x.y t.y.y t.z.y (h.within X Y) (h.within Y Y) (h.within Z Y)
turned_in t n m h at tip Z =
    in_row n (pos 10000000) (m X Z) (m Y Z) (m Z Z) (at.x -ℤ tip.x) (at.y -ℤ tip.y) (at.z -ℤ tip.z) t.x.z t.y.z t.z.z (h.within X Z) (h.within Y Z) (h.within Z Z)

-- ---- rounding

pub floor_le : (z : ℤ) → (pos 10000000 *ℤ floor_one z) ≤ℤ z
floor_le (pos n) = omega (arith, ints)
floor_le (negsuc n) = omega (arith, ints)

pub le_ceil : (z : ℤ) → z ≤ℤ (pos 10000000 *ℤ ceil_one z)
le_ceil z = turn (pos 10000000 *ℤ floor_one (neg_ℤ z)) (pos 10000000 *ℤ ceil_one z) z (floor_le (neg_ℤ z)) (mul-neg (pos 10000000) (floor_one (neg_ℤ z)))
  where
    turn : (a b z : ℤ) → a ≤ℤ neg_ℤ z → b ≡ neg_ℤ a → z ≤ℤ b
    turn a b z h e = omega (arith, ints)

-- a bound in ten-millionths, as a whole number
pub floor_in : (n : ℕ) (v q : ℤ) → (pos n *ℤ q) ≤ℤ (pos 10000000 *ℤ v) → (pos n *ℤ floor_one q) ≤ℤ v
floor_in n v q h = unscaled_le 10000000 (pos n *ℤ floor_one q) v (omega arith)
    (trans _ _ _ (subst (λ (z : ℤ). z ≤ℤ (pos n *ℤ q)) (swap (pos n) (pos 10000000) (floor_one q)) (scaled_le n (pos 10000000 *ℤ floor_one q) q (floor_le q))) h)

pub ceil_in : (n : ℕ) (v q : ℤ) → (pos 10000000 *ℤ v) ≤ℤ (pos n *ℤ q) → v ≤ℤ (pos n *ℤ ceil_one q)
ceil_in n v q h = unscaled_le 10000000 v (pos n *ℤ ceil_one q) (omega arith)
    (trans _ _ _ h (subst (λ (z : ℤ). (pos n *ℤ q) ≤ℤ z) (swap (pos n) (pos 10000000) (ceil_one q)) (scaled_le n q (pos 10000000 *ℤ ceil_one q) (le_ceil q))))

-- a slope times what lies in an interval, in ten-millionths
in_across : (n : ℕ) (l v : ℤ) (x : Interval) → IsIn n (pos 10000000 *ℤ v) x → IsIn n (l *ℤ v) (across l x)
in_across n l v x h = record {
  low = floor_in n (l *ℤ v) (int_min (l *ℤ x.low) (l *ℤ x.high))
      (subst (λ (z : ℤ). (pos n *ℤ int_min (l *ℤ x.low) (l *ℤ x.high)) ≤ℤ z) (swap l (pos 10000000) v) (product_low l x.low x.high (pos 10000000 *ℤ v) n h.low h.high));
  high = ceil_in n (l *ℤ v) (int_max (l *ℤ x.low) (l *ℤ x.high))
      (subst (λ (z : ℤ). z ≤ℤ (pos n *ℤ int_max (l *ℤ x.low) (l *ℤ x.high))) (swap l (pos 10000000) v) (product_high l x.low x.high (pos 10000000 *ℤ v) n h.low h.high));
}

apart_low : (s a b c d : ℤ) → s ≡ a -ℤ b → a ≤ℤ c → d ≤ℤ b → s ≤ℤ (c -ℤ d)
apart_low s a b c d e p q = omega (arith, ints)

apart_high : (s a b c d : ℤ) → s ≡ a -ℤ b → c ≤ℤ a → b ≤ℤ d → (c -ℤ d) ≤ℤ s
apart_high s a b c d e p q = omega (arith, ints)

pub in_less : (n : ℕ) (l v w : ℤ) (x o : Interval) → IsIn n (pos 10000000 *ℤ v) x → IsIn n (pos 10000000 *ℤ w) o
    → IsIn n (pos 10000000 *ℤ v -ℤ l *ℤ w) (less l x o)
in_less n l v w x o p q =
    let by = in_across n l w o q in
    record {
      low = apart_low _ _ _ (pos 10000000 *ℤ v) (l *ℤ w) (mul-sub (pos n) x.low (across l o).high) p.low by.high;
      high = apart_high _ _ _ (pos 10000000 *ℤ v) (l *ℤ w) (mul-sub (pos n) x.high (across l o).low) p.high by.low;
    }

-- ---- the least absolute value

size_of_max : (z : ℤ) → int_max z (pos 0) ≡ pos (unsigned_abs (int_max z (pos 0)))
size_of_max z = omega (arith, ints, clamps)

pub least_is : (x : Interval) → least_size x ≡ pos (unsigned_abs (least_size x))
least_is x = size_of_max (int_max x.low (neg_ℤ x.high))

pub least_in : (n : ℕ) (v : ℤ) (x : Interval) → IsIn n v x → n * unsigned_abs (least_size x) ≤ unsigned_abs v
least_in n v x h =
    let below : (pos n *ℤ least_size x) ≤ℤ pos (unsigned_abs v) =
    max_holds (λ z. (pos n *ℤ z) ≤ℤ pos (unsigned_abs v)) (int_max x.low (neg_ℤ x.high)) (pos 0)
    (max_holds (λ z. (pos n *ℤ z) ≤ℤ pos (unsigned_abs v)) x.low (neg_ℤ x.high) (above (pos n *ℤ x.low) v h.low)
    (under (pos n *ℤ x.high) (pos n *ℤ neg_ℤ x.high) v h.high (mul-neg (pos n) x.high)))
    (none (pos n *ℤ pos 0) v (mul-zero (pos n))) in
    by (unsigned_abs (least_size x)) (unsigned_abs v) (subst (λ (z : ℤ). (pos n *ℤ z) ≤ℤ pos (unsigned_abs v)) (least_is x) below)
  where
    above : (a v : ℤ) → a ≤ℤ v → a ≤ℤ pos (unsigned_abs v)
    above a v h = omega (arith, ints)

    under : (a b v : ℤ) → v ≤ℤ a → b ≡ neg_ℤ a → b ≤ℤ pos (unsigned_abs v)
    under a b v h e = omega (arith, ints)

    none : (a v : ℤ) → a ≡ pos 0 → a ≤ℤ pos (unsigned_abs v)
    none a v e = omega (arith, ints)

    by : (l k : ℕ) → (pos n *ℤ pos l) ≤ℤ pos k → n * l ≤ k
    by l k h = omega (arith, ints, h)
