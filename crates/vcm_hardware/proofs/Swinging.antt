-- The swing holds what turns.
use Rattle.std.proofs.Common.{◌≡◌, inl, inr, ℕ, ℤ, pos, negsuc, zero, suc, ◌+◌, ◌*◌, ◌<◌, ◌≤◌, ◌+ℤ◌, ◌-ℤ◌, ◌*ℤ◌, ◌≤ℤ◌, neg_ℤ, Bool, true, false, List, [], ◌∷◌, arith, ap, refl, sym, subst, ◌∙◌}
use Rattle.std.specs.Prelude.{unsigned_abs, int_le, int_lt, get_or, ◌&&◌, Contains, if◌then◌else◌}
use Rattle.std.specs.Int.{int_min, int_rem_euclid}
use Rattle.std.specs.List.{list_all, AllByRecursion}
use Rattle.std.proofs.Math.Nat.{mul-le-mul_left, mul-le-mul_right}
use Rattle.std.proofs.lemmas.Int.{ints, unsigned_abs-mul}
use Rattle.std.proofs.lemmas.Bool.{and_parts}
use lib.Signed.{◌<ℤ◌}
use Rattle.vcm_num.specs.Point.{point}
use Rattle.vcm_num.proofs.Ring.{mul-add_three, mul-assoc}
use Rattle.vcm_hardware.specs.declared.interval.Ratio.{Ratio}
use Rattle.vcm_hardware.specs.declared.interval.Interval.{Interval}
use Rattle.vcm_hardware.specs.declared.angle.Along.{Along}
use Rattle.vcm_hardware.specs.declared.angle.Along.TheVariants.{X, Y, Z}
use Rattle.vcm_hardware.specs.declared.description.Cylinder.{Cylinder}
use Rattle.vcm_hardware.specs.declared.description.Ball.{Ball}
use Rattle.vcm_hardware.specs.declared.swing.Reach.{Reach}
use Rattle.vcm_hardware.specs.declared.swing.Swing.{Swing}
use Rattle.vcm_hardware.specs.Intervals.{negative, ceil_one, root_up, least_size}
use Rattle.vcm_hardware.specs.Turned.{cosines, just, quarter_cosine, cosine_within, cosine}
use Rattle.vcm_hardware.specs.Swings.{whole_reach, raised, swing_by, swing_cut, swing_between, swing_slab, swing_behind, swing_slabs}
use Rattle.vcm_hardware.specs.Holding.{corner_on, LiesIn, IsCovered}
use Rattle.vcm_hardware.specs.SwingHolding.{Angle, IsAngle, IsUpTo, IsOfSome}
use Rattle.vcm_hardware.proofs.Floors.{square_is}
use Rattle.vcm_hardware.proofs.Products.{mul-neg, swap, scaled_le, turned_le, unscaled_le, trans, min_holds}
use Rattle.vcm_hardware.proofs.Roots.{square_le}
use Rattle.vcm_hardware.proofs.Widths.{root_size}
use Rattle.vcm_hardware.proofs.Turns.{whole_number, le_ceil, least_in}
use Rattle.vcm_hardware.proofs.Units.{second_quarter}
use Rattle.vcm_hardware.proofs.Held.{under_root, on_axes, between_cuts, no_part, all_parts}
use Rattle.vcm_hardware.proofs.Balls.{natural}
use Rattle.vcm_hardware.proofs.Distances.{root_le, turn_keeps, turns_keep}
use Rattle.vcm_hardware.proofs.Within.{square_off, IsReachedBy, IsOutward, IsClosePart, IsCloseBall, part_within, ball_within, whole_outward}

-- ---- where a place comes to

-- how far along y and up once A is turned, times the number of A
abbrev pub tilted_y : Angle → (Along → ℤ) → ℤ
tilted_y a p = a.sine *ℤ p Z +ℤ a.cosine *ℤ p Y

abbrev pub tilted_z : Angle → (Along → ℤ) → ℤ
tilted_z a p = a.cosine *ℤ p Z -ℤ a.sine *ℤ p Y

-- once A and B are turned, times both numbers
abbrev pub swung : Angle → Angle → (Along → ℤ) → Along → ℤ
swung a b p X = b.cosine *ℤ (pos a.over *ℤ p X) -ℤ b.sine *ℤ tilted_y a p
swung a b p Y = b.sine *ℤ (pos a.over *ℤ p X) +ℤ b.cosine *ℤ tilted_y a p
swung a b p Z = pos b.over *ℤ tilted_z a p

-- ---- cosines of the table, up to half a turn

abbrev is_some : Ratio → Bool
is_some x = int_le (pos 0) x.low && int_le (pos 0) x.high

some_at : (xs : List Ratio) (k : ℕ) (d : Ratio) → list_all is_some xs ≡ true → is_some d ≡ true → is_some (get_or xs k d) ≡ true
some_at [] k d all last = last
some_at (x ∷ xs) zero d all last = (and_parts (is_some x) (list_all is_some xs) all).0
some_at (x ∷ xs) (suc k) d all last = some_at xs k d (and_parts (is_some x) (list_all is_some xs) all).1 last

from_test : (z : ℤ) → int_le (pos 0) z ≡ true → pos 0 ≤ℤ z
from_test z h = grind (arith, ints)

quarter_some : (k : ℕ) → (pos 0 ≤ℤ (quarter_cosine k).low) × (pos 0 ≤ℤ (quarter_cosine k).high)
quarter_some k =
    let x = quarter_cosine k in
    let both = and_parts (int_le (pos 0) x.low) (int_le (pos 0) x.high) (some_at cosines k (just 0) refl refl) in
    (from_test x.low both.0, from_test x.high both.1)

module _ (steps : ℤ) (from : pos 0 ≤ℤ steps) (to : steps ≤ℤ pos 24) where
  no_turn : steps ≡ int_rem_euclid steps (pos 48)
  no_turn = by steps from to
    where
      by : (z : ℤ) → pos 0 ≤ℤ z → z ≤ℤ pos 24 → z ≡ int_rem_euclid z (pos 48)
      by (pos n) h k = omega (arith, ints, h, k)
      by (negsuc n) h k = absurd (omega (arith, ints, h))

  first_low : steps ≤ℤ pos 12 → pos 0 ≤ℤ (cosine steps).low
  first_low h =
      let test : int_le steps (pos 12) ≡ true = grind (arith, ints) in
      let is : cosine_within steps ≡ quarter_cosine (unsigned_abs steps) = rw test refl in
      subst (λ (x : Ratio). pos 0 ≤ℤ x.low) (sym is ∙ ap cosine_within no_turn) (quarter_some (unsigned_abs steps)).0

  second_low : pos 12 <ℤ steps → (cosine steps).low ≤ℤ pos 0
  second_low h =
      let q = quarter_cosine (unsigned_abs (pos 24 -ℤ steps)) in
      subst (λ (x : Ratio). x.low ≤ℤ pos 0) (second_quarter steps steps q (negative q) no_turn h to refl refl) (turned q.high (quarter_some (unsigned_abs (pos 24 -ℤ steps))).1)
    where
      turned : (z : ℤ) → pos 0 ≤ℤ z → neg_ℤ z ≤ℤ pos 0
      turned z h = omega (arith, ints)

-- ---- how high it comes

negative_is : (z : ℤ) → z ≤ℤ pos 0 → z ≡ neg_ℤ (pos (unsigned_abs z))
negative_is z h = omega (arith, ints)

both_negative : (k m : ℕ) → negsuc k *ℤ neg_ℤ (pos m) ≡ pos (suc k * m)
both_negative k zero = omega (arith, ints)
both_negative k (suc m) = refl

two_negative : (k m : ℕ) → neg_ℤ (pos k) *ℤ neg_ℤ (pos m) ≡ pos (k * m)
two_negative zero m = omega (arith, ints)
two_negative (suc k) m = both_negative k m

-- what hangs at most l below comes up by r where A, of n parts, is turned by more than a quarter turn
pub record IsRaised (steps : ℤ) (n l : ℕ) (z : ℤ) : Type 0 where
  pub r : ℕ
  pub is : z ≡ pos r
  pub holds : (k : ℕ) → (pos n *ℤ (cosine steps).low) ≤ℤ (pos 10000000 *ℤ negsuc k) → suc k * l ≤ n * r

module _ (steps : ℤ) (from : pos 0 ≤ℤ steps) (to : steps ≤ℤ pos 24) (n l : ℕ) where
  not_raised : steps ≤ℤ pos 12 → IsRaised steps n l (pos 0)
  not_raised h = record {
    r = 0;
    is = refl;
    holds = λ k up. absurd (never n (unsigned_abs (cosine steps).low) k (subst (λ (z : ℤ). (pos n *ℤ z) ≤ℤ (pos 10000000 *ℤ negsuc k)) (natural (cosine steps).low (first_low steps from to h)) up));
  }
    where
      never : (n c k : ℕ) → (pos n *ℤ pos c) ≤ℤ (pos 10000000 *ℤ negsuc k) → ⊥
      never n c k h = omega (arith, ints, h)

  is_raised : pos 12 <ℤ steps → IsRaised steps n l (ceil_one ((cosine steps).low *ℤ neg_ℤ (pos l)))
  is_raised h =
      let c = (cosine steps).low in
      let q = unsigned_abs c in
      let low : c ≡ neg_ℤ (pos q) = negative_is c (second_low steps from to h) in
      let up = ceil_one (c *ℤ neg_ℤ (pos l)) in
      let above : pos (q * l) ≤ℤ (pos 10000000 *ℤ up) = subst (λ (z : ℤ). z ≤ℤ (pos 10000000 *ℤ up)) (ap (λ z. z *ℤ neg_ℤ (pos l)) low ∙ two_negative q l) (le_ceil (c *ℤ neg_ℤ (pos l))) in
      let some : pos 0 ≤ℤ up = at_least (q * l) up above in
      let is = natural up some in
      record {
        r = unsigned_abs up;
        is = is;
        holds = λ k below.
            let under : 10000000 * suc k ≤ n * q = steeper n q k (subst (λ (z : ℤ). (pos n *ℤ z) ≤ℤ (pos 10000000 *ℤ negsuc k)) low below) in
            let over : q * l ≤ 10000000 * unsigned_abs up = as_number (q * l) (unsigned_abs up) (subst (λ (z : ℤ). pos (q * l) ≤ℤ (pos 10000000 *ℤ z)) is above) in
            shared k (unsigned_abs up) q (mul-le-mul_right l under) (mul-le-mul_left n over);
      }
    where
      at_least : (m : ℕ) (z : ℤ) → pos m ≤ℤ (pos 10000000 *ℤ z) → pos 0 ≤ℤ z
      at_least m z h = omega (arith, ints)

      steeper : (n q k : ℕ) → (pos n *ℤ neg_ℤ (pos q)) ≤ℤ (pos 10000000 *ℤ negsuc k) → 10000000 * suc k ≤ n * q
      steeper n q k h = by (n * q) k (subst (λ (z : ℤ). z ≤ℤ (pos 10000000 *ℤ negsuc k)) (mul-neg (pos n) (pos q)) h)
        where
          by : (m k : ℕ) → neg_ℤ (pos m) ≤ℤ (pos 10000000 *ℤ negsuc k) → 10000000 * suc k ≤ m
          by m k h = omega (arith, ints, h)

      as_number : (m r : ℕ) → pos m ≤ℤ (pos 10000000 *ℤ pos r) → m ≤ 10000000 * r
      as_number m r h = omega (arith, ints, h)

      shared : (k r q : ℕ) → (10000000 * suc k) * l ≤ (n * q) * l → n * (q * l) ≤ n * (10000000 * r) → suc k * l ≤ n * r
      shared k r q h i = omega (arith, h, i)

  pub raised_so : IsRaised steps n l (raised steps (neg_ℤ (pos l)))
  raised_so = by (int_lt (pos 12) steps) over under
    where
      over : int_lt (pos 12) steps ≡ true → pos 12 <ℤ steps
      over h = grind (arith, ints)

      under : int_lt (pos 12) steps ≡ false → steps ≤ℤ pos 12
      under h = grind (arith, ints)

      by : (t : Bool) → (t ≡ true → pos 12 <ℤ steps) → (t ≡ false → steps ≤ℤ pos 12)
          → IsRaised steps n l (if t then ceil_one ((cosine steps).low *ℤ neg_ℤ (pos l)) else pos 0)
      by true h k = is_raised (h refl)
      by false h k = not_raised (k refl)

-- a point that hangs within these reaches, A being tilted
module _ (a : Angle) (angle : IsAngle a) (steps : ℤ) (from : pos 0 ≤ℤ steps) (to : steps ≤ℤ pos 24) (up : IsUpTo steps a) (s : ℕ) where
  abbrev n : ℕ
  n = a.over

  squares : unsigned_abs a.cosine * unsigned_abs a.cosine + unsigned_abs a.sine * unsigned_abs a.sine ≡ n * n
  squares = whole_number _ _ (a.cosine *ℤ a.cosine +ℤ a.sine *ℤ a.sine) (rw (square_is a.cosine, square_is a.sine) refl) angle.whole

  sine_small : unsigned_abs a.sine ≤ n
  sine_small = root_le (unsigned_abs a.sine) n (omega (arith, squares))

  cosine_small : unsigned_abs a.cosine ≤ n
  cosine_small = root_le (unsigned_abs a.cosine) n (omega (arith, squares))

  -- along y
  across : (y w : ℤ) → pos (unsigned_abs y) ≤ℤ (pos s *ℤ w) → neg_ℤ (a.sine *ℤ y) ≤ℤ (pos n *ℤ (pos s *ℤ w))
  across y w h =
      trans _ (pos n *ℤ pos (unsigned_abs y)) _ (by (a.sine *ℤ y) (unsigned_abs a.sine * unsigned_abs y) (n * unsigned_abs y) (unsigned_abs-mul a.sine y) (mul-le-mul_right (unsigned_abs y) sine_small))
      (scaled_le n (pos (unsigned_abs y)) (pos s *ℤ w) h)
    where
      by : (z : ℤ) (m k : ℕ) → unsigned_abs z ≡ m → m ≤ k → neg_ℤ z ≤ℤ pos k
      by z m k e h = omega (arith, ints)

  -- and up
  risen : (h l r : ℕ) → ((k : ℕ) → (pos n *ℤ (cosine steps).low) ≤ℤ (pos 10000000 *ℤ negsuc k) → suc k * l ≤ n * r) → (z : ℤ) → z ≤ℤ (pos s *ℤ pos h)
      → (pos s *ℤ neg_ℤ (pos l)) ≤ℤ z → (a.cosine *ℤ z) ≤ℤ pos ((s * n) * h + (s * n) * r)
  risen h l r raises z high low = by a.cosine cosine_small up
    where
      by : (c : ℤ) → unsigned_abs c ≤ n → (pos n *ℤ (cosine steps).low) ≤ℤ (pos 10000000 *ℤ c) → (c *ℤ z) ≤ℤ pos ((s * n) * h + (s * n) * r)
      by (pos c) small below = trans _ (pos (c * (s * h))) _ (scaled_le c z (pos s *ℤ pos h) high) (as_number (c * (s * h)) _ (upward c small))
        where
          as_number : (m k : ℕ) → m ≤ k → pos m ≤ℤ pos k
          as_number m k h = omega (arith, ints, h)

          upward : (c : ℕ) → c ≤ n → c * (s * h) ≤ (s * n) * h + (s * n) * r
          upward c small = omega (arith, mul-le-mul_right (s * h) small)
      by (negsuc k) small below =
          trans _ (pos (suc k * (s * l))) _
          (subst (λ (x : ℤ). (negsuc k *ℤ z) ≤ℤ x) (ap (λ x. negsuc k *ℤ x) (mul-neg (pos s) (pos l)) ∙ both_negative k (s * l)) (turned_le k (pos s *ℤ neg_ℤ (pos l)) z low))
          (as_number (suc k * (s * l)) _ (downward k (mul-le-mul_left s (raises k below))))
        where
          as_number : (m k : ℕ) → m ≤ k → pos m ≤ℤ pos k
          as_number m k h = omega (arith, ints, h)

          downward : (k : ℕ) → s * (suc k * l) ≤ s * (n * r) → suc k * (s * l) ≤ (s * n) * h + (s * n) * r
          downward k below = omega (arith, below)

  pub tilted_high : (all : Reach) → IsOutward all → (p : Along → ℤ) → IsReachedBy all s p → tilted_z a p ≤ℤ (pos (s * n) *ℤ (all.wide +ℤ all.high +ℤ raised steps all.low))
  tilted_high all out p there =
      let h = unsigned_abs all.high in
      let l = unsigned_abs all.low in
      let is_high : all.high ≡ pos h = natural all.high out.high in
      let is_low : all.low ≡ neg_ℤ (pos l) = negative_is all.low out.low in
      let up = raised_so steps from to n l in
      let is_up : raised steps all.low ≡ pos up.r = ap (raised steps) is_low ∙ up.is in
      let first = across (p Y) all.wide there.wide in
      let second = risen h l up.r up.holds (p Z) (subst (λ (z : ℤ). p Z ≤ℤ (pos s *ℤ z)) is_high there.high) (subst (λ (z : ℤ). (pos s *ℤ z) ≤ℤ p Z) is_low there.low) in
      sums (a.cosine *ℤ p Z) (a.sine *ℤ p Y) (pos n *ℤ (pos s *ℤ all.wide)) (pos (s * n) *ℤ all.wide) ((s * n) * h) ((s * n) * up.r) _ second first
      (swap (pos n) (pos s) all.wide ∙ sym (mul-assoc (pos s) (pos n) all.wide))
      (ap (λ (z : ℤ). pos (s * n) *ℤ (all.wide +ℤ z +ℤ raised steps all.low)) is_high ∙ ap (λ (z : ℤ). pos (s * n) *ℤ (all.wide +ℤ pos h +ℤ z)) is_up
      ∙ mul-add_three (pos (s * n)) all.wide (pos h) (pos up.r))
    where
      sums : (c d w v : ℤ) (m k : ℕ) (x : ℤ) → c ≤ℤ pos (m + k) → neg_ℤ d ≤ℤ w → w ≡ v → x ≡ v +ℤ pos m +ℤ pos k → (c -ℤ d) ≤ℤ x
      sums c d w v m k x h i e f = omega (arith, ints)

-- ---- the slabs

inside : (v : ℤ) (b h : ℕ) → unsigned_abs v ≤ b * h → ((pos b *ℤ neg_ℤ (pos h)) ≤ℤ v) × (v ≤ℤ (pos b *ℤ pos h))
inside v b h near = (subst (λ (z : ℤ). z ≤ℤ v) (sym (mul-neg (pos b) (pos h))) (by v (b * h) near).0, (by v (b * h) near).1)
  where
    by : (v : ℤ) (k : ℕ) → unsigned_abs v ≤ k → (neg_ℤ (pos k) ≤ℤ v) × (v ≤ℤ pos k)
    by v k h = (omega (arith, ints), omega (arith, ints))

module _ (b f : ℕ) (small : f ≤ 10000000) (y : Along → ℤ) (near : square_off y ≤ (b * f) * (b * f)) where
  -- a slab between whose heights a place lies
  in_between : (z t : ℤ) → (pos b *ℤ z) ≤ℤ y Z → y Z ≤ℤ (pos b *ℤ t) → LiesIn (swing_between (pos f) z t) b y
  in_between z t low high =
      let x : Interval = record { low = z; high = t } in
      let l = unsigned_abs (least_size x) in
      let square = pos f *ℤ pos f -ℤ least_size x *ℤ least_size x in
      let h = unsigned_abs (root_up square) in
      let away : b * l ≤ unsigned_abs (y Z) = least_in b (y Z) x (record { low = low; high = high }) in
      let root : f * f ≤ l * l + h * h = under_root (f * f) (l * l) square (ap (λ q. pos (f * f) -ℤ q) (square_is (least_size x))) (omega (arith, square_le f 10000000 small)) in
      let aside : unsigned_abs (y X) * unsigned_abs (y X) + unsigned_abs (y Y) * unsigned_abs (y Y) ≤ (b * h) * (b * h) =
      left (unsigned_abs (y X) * unsigned_abs (y X)) (unsigned_abs (y Y) * unsigned_abs (y Y)) (unsigned_abs (y Z) * unsigned_abs (y Z)) l h near
      (square_le (b * l) (unsigned_abs (y Z)) away) (mul-le-mul_left (b * b) root) in
      let on_x = inside (y X) b h (root_le (unsigned_abs (y X)) (b * h) (omega (arith, aside))) in
      let on_y = inside (y Y) b h (root_le (unsigned_abs (y Y)) (b * h) (omega (arith, aside))) in
      subst (λ (k : ℤ). LiesIn (record { low = point (neg_ℤ k) (neg_ℤ k) z; high = point k k t }) b y) (sym (root_size square)) (record {
        low = on_axes (λ i. (pos b *ℤ corner_on (point (neg_ℤ (pos h)) (neg_ℤ (pos h)) z) i) ≤ℤ y i) on_x.0 on_y.0 low;
        high = on_axes (λ i. y i ≤ℤ (pos b *ℤ corner_on (point (pos h) (pos h) t) i)) on_x.1 on_y.1 high;
      })
    where
      left : (x y z l h : ℕ) → x + y + z ≤ (b * f) * (b * f) → (b * l) * (b * l) ≤ z → (b * b) * (f * f) ≤ (b * b) * (l * l + h * h) → x + y ≤ (b * h) * (b * h)
      left x y z l h p q r = omega (arith, p, q, r)

  on_z : unsigned_abs (y Z) ≤ b * f
  on_z = root_le (unsigned_abs (y Z)) (b * f) (omega (arith, near))

stands : (w : Swing) (left i j : ℕ) → j < left → Contains (swing_behind w i left) (swing_slab w (pos (i + j)))
unfolding swing_behind
stands w zero i j h = absurd (omega (arith, h))
stands w (suc left) i zero h = (0, omega arith, ap (λ (k : ℕ). swing_slab w (pos k)) (nothing_more i))
  where
    nothing_more : (i : ℕ) → i ≡ i + 0
    nothing_more i = omega arith
stands w (suc left) i (suc j) h =
    let there = subst (λ (k : ℕ). Contains (swing_behind w (i + 1) left) (swing_slab w (pos k))) (one_on i j) (stands w left (i + 1) j (omega (arith, h))) in
    (suc there.0, omega (arith, there.1), there.2)
  where
    one_on : (i j : ℕ) → (i + 1) + j ≡ i + suc j
    one_on i j = omega arith

module _ (b f : ℕ) (some : 0 < b) (small : f ≤ 10000000) (y : Along → ℤ) (near : square_off y ≤ (b * f) * (b * f)) (t : ℤ) (top : y Z ≤ℤ (pos b *ℤ t)) where
  abbrev swing : Swing
  swing = record { radius = pos f; top = t }

  lowest : (pos b *ℤ neg_ℤ (pos f)) ≤ℤ y Z
  lowest = (inside (y Z) b f (on_z b f small y near)).0

  begins : swing_cut swing (pos 0) ≡ neg_ℤ (pos f)
  begins = ap (λ (z : ℤ). z -ℤ pos f) (no_part 16 (t +ℤ pos f)) ∙ less_is f
    where
      less_is : (f : ℕ) → pos 0 -ℤ pos f ≡ neg_ℤ (pos f)
      less_is f = omega (arith, ints)

  ends : swing_cut swing (pos 16) ≡ t
  ends = ap (λ (z : ℤ). z -ℤ pos f) (all_parts 16 (t +ℤ pos f) (omega arith) (above t f (unscaled_le b (neg_ℤ (pos f)) t some (trans _ _ _ lowest top)))) ∙ back t f
    where
      above : (t : ℤ) (f : ℕ) → neg_ℤ (pos f) ≤ℤ t → pos 0 ≤ℤ (t +ℤ pos f)
      above t f h = omega (arith, ints)

      back : (t : ℤ) (f : ℕ) → (t +ℤ pos f) -ℤ pos f ≡ t
      back t f = omega (arith, ints)

  pub in_swing : IsCovered (swing_slabs swing) b y
  in_swing =
      let at = between_cuts b (y Z) (λ (j : ℕ). swing_cut swing (pos j)) (subst (λ (z : ℤ). (pos b *ℤ z) ≤ℤ y Z) (sym begins) lowest) 16 (omega arith)
      (subst (λ (z : ℤ). y Z ≤ℤ (pos b *ℤ z)) (sym ends) top) in
      record {
        box = swing_slab swing (pos at.0);
        stands = subst (λ (k : ℕ). Contains (swing_slabs swing) (swing_slab swing (pos k))) (from_none at.0) (stands swing 16 0 at.0 at.1);
        inside = in_between b f small y near (swing_cut swing (pos at.0)) (swing_cut swing (pos (at.0 + 1))) at.2 at.3;
      }
    where
      from_none : (j : ℕ) → 0 + j ≡ j
      from_none j = omega arith

-- ---- all

three_some : (s m n : ℕ) → 0 < s → 0 < m → 0 < n → 0 < s * (m * n)
three_some zero m n p q r = absurd (omega arith)
three_some (suc s) zero n p q r = absurd (omega arith)
three_some (suc s) (suc m) zero p q r = absurd (omega arith)
three_some (suc s) (suc m) (suc n) p q r = omega arith

module _ (steps : ℤ) (from : pos 0 ≤ℤ steps) (to : steps ≤ℤ pos 24) (a b : Angle) (on_a : IsAngle a) (on_b : IsAngle b) (up : IsUpTo steps a) (s : ℕ) (some : 0 < s) (p : Along → ℤ)
    (all : Reach) (out : IsOutward all) (there : IsReachedBy all s p) where
  abbrev far : ℕ
  far = unsigned_abs all.far

  far_is : all.far ≡ pos far
  far_is = natural all.far out.far.some

  far_small : far ≤ 10000000
  far_small = by all.far out.far.some out.far.most
    where
      by : (z : ℤ) → pos 0 ≤ℤ z → z ≤ℤ pos 10000000 → unsigned_abs z ≤ 10000000
      by z h k = omega (arith, ints)

  abbrev count : ℕ
  count = s * (a.over * b.over)

  kept : square_off (swung a b p) ≡ ((a.over * b.over) * (a.over * b.over)) * square_off p
  kept =
      turns_keep a.over b.over (unsigned_abs (p X)) (unsigned_abs (p Y)) (unsigned_abs (p Z)) (unsigned_abs (tilted_y a p)) (unsigned_abs (tilted_z a p)) (unsigned_abs (swung a b p X))
      (unsigned_abs (swung a b p Y)) (unsigned_abs (swung a b p Z)) (turn_keeps a.cosine a.sine (p Z) (p Y) a.over on_a.whole)
      (turn_keeps b.cosine b.sine (pos a.over *ℤ p X) (tilted_y a p) b.over on_b.whole
      ∙ ap (λ (k : ℕ). (b.over * b.over) * (k * k + unsigned_abs (tilted_y a p) * unsigned_abs (tilted_y a p))) (unsigned_abs-mul (pos a.over) (p X)))
      (unsigned_abs-mul (pos b.over) (tilted_z a p))

  near : square_off (swung a b p) ≤ (count * far) * (count * far)
  near = by (square_off (swung a b p)) (a.over * b.over) (square_off p) far kept (mul-le-mul_left ((a.over * b.over) * (a.over * b.over)) there.far)
    where
      by : (x k q f : ℕ) → x ≡ (k * k) * q → (k * k) * q ≤ (k * k) * ((s * f) * (s * f)) → x ≤ ((s * k) * f) * ((s * k) * f)
      by x k q f e h = omega (arith, e, h)

  abbrev height : ℤ
  height = all.wide +ℤ all.high +ℤ raised steps all.low

  under_height : swung a b p Z ≤ℤ (pos count *ℤ height)
  under_height =
      subst (λ (z : ℤ). swung a b p Z ≤ℤ z)
      (sym (mul-assoc (pos b.over) (pos (s * a.over)) height) ∙ ap (λ (k : ℕ). pos k *ℤ height) (together b.over s a.over))
      (scaled_le b.over (tilted_z a p) (pos (s * a.over) *ℤ height) (tilted_high a on_a steps from to up s all out p there))
    where
      together : (n s m : ℕ) → n * (s * m) ≡ s * (m * n)
      together n s m = omega arith

  under_far : swung a b p Z ≤ℤ (pos count *ℤ all.far)
  under_far = subst (λ (z : ℤ). swung a b p Z ≤ℤ (pos count *ℤ z)) (sym far_is) (inside (swung a b p Z) count far (on_z count far far_small (swung a b p) near)).1

  pub swing_holds : IsCovered (swing_slabs (swing_by all steps)) count (swung a b p)
  swing_holds =
      subst (λ (z : ℤ). IsCovered (swing_slabs (record { radius = z; top = int_min all.far height })) count (swung a b p)) (sym far_is)
      (in_swing count far (three_some s a.over b.over some on_a.positive on_b.positive) far_small (swung a b p) near (int_min all.far height)
      (min_holds (λ (z : ℤ). swung a b p Z ≤ℤ (pos count *ℤ z)) all.far height under_far under_height))

module _ (steps : ℤ) (from : pos 0 ≤ℤ steps) (to : steps ≤ℤ pos 24) (a b : Angle) (on_a : IsAngle a) (on_b : IsAngle b) (up : IsUpTo steps a) (cs : List Cylinder) (bs : List Ball)
    (parts : AllByRecursion IsClosePart cs) (balls : AllByRecursion IsCloseBall bs) (s : ℕ) (p : Along → ℤ) where
  pub whole_swing_holds : IsOfSome cs bs s p → IsCovered (swing_slabs (swing_by (whole_reach cs bs) steps)) (s * (a.over * b.over)) (swung a b p)
  whole_swing_holds (inl (c, there, about)) =
      swing_holds steps from to a b on_a on_b up s about.positive p (whole_reach cs bs) (whole_outward cs bs parts balls) (part_within s p cs bs parts balls c there about)
  whole_swing_holds (inr (ball, there, around)) =
      swing_holds steps from to a b on_a on_b up s around.positive p (whole_reach cs bs) (whole_outward cs bs parts balls) (ball_within s p cs bs parts balls ball there around)
