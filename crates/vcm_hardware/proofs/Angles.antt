-- Turns by two angles: their axes are square to each other and of length 1, and lie where the table has them.
use Rattle.std.proofs.Common.{◌≡◌, ℕ, ℤ, pos, zero, suc, List, ◌*◌, ◌<◌, ◌+ℤ◌, ◌-ℤ◌, ◌*ℤ◌, ◌≤ℤ◌, neg_ℤ, arith, ap, refl, sym, subst, ◌∙◌}
use Rattle.std.specs.Int.{int_min, int_max}
use Rattle.std.proofs.Math.IntN.{*ℤ_comm}
use Rattle.std.proofs.lemmas.Int.{ints}
use Rattle.vcm_num.proofs.Ring.{mul-add, mul-assoc}
use Rattle.vcm_spec.specs.declared.workpiece.Block3.{Block3}
use Rattle.vcm_hardware.specs.declared.interval.Ratio.{Ratio}
use Rattle.vcm_hardware.specs.declared.angle.Along.{Along}
use Rattle.vcm_hardware.specs.declared.angle.Along.TheVariants.{X, Y, Z}
use Rattle.vcm_hardware.specs.Intervals.{least_of, greatest_of, product, negative, wide}
use Rattle.vcm_hardware.specs.Turned.{just, cosine, sine, towards, column, turning_by}
use Rattle.vcm_hardware.specs.Boxes.{origin}
use Rattle.vcm_hardware.specs.Holding.{corner_on, over_axes, rows_give, IsIn, IsTurn, way_from, turned_place, IsCovered}
use Rattle.vcm_hardware.specs.SwingHolding.{Angle, IsStep, axes_by, AnglesGiveTurns, SwingHoldsWhatTurns}
use Rattle.vcm_hardware.proofs.Products.{mul-sub, mul-zero, mul-neg, swap, scaled_le, trans, min_left, min_right, max_left, max_right, min_holds, max_holds, product_low, product_high}
use Rattle.vcm_hardware.proofs.Turns.{turn_over, floor_in, ceil_in}
use Rattle.vcm_hardware.proofs.Distances.{four}
use Rattle.vcm_hardware.proofs.Swinging.{swung}
use Rattle.vcm_hardware.proofs.Nearness.{swing_holds_read}

-- ---- negatives

neg-mul : (a b : ℤ) → neg_ℤ a *ℤ b ≡ neg_ℤ (a *ℤ b)
neg-mul a b = *ℤ_comm (neg_ℤ a) b ∙ mul-neg b a ∙ ap neg_ℤ (*ℤ_comm b a)

back : (z : ℤ) → neg_ℤ (neg_ℤ z) ≡ z
back z = omega (arith, ints)

neg_both : (a b : ℤ) → neg_ℤ a *ℤ neg_ℤ b ≡ a *ℤ b
neg_both a b = mul-neg (neg_ℤ a) b ∙ ap neg_ℤ (neg-mul a b) ∙ back (a *ℤ b)

-- ---- the axes: k, p and q are the number, the cosine and the sine of A, n, c and s those of B

module _ (k p q : ℤ) (one : p *ℤ p +ℤ q *ℤ q ≡ k *ℤ k) where
  -- a factor of both
  shared : (u v : ℤ) → (u *ℤ p) *ℤ (v *ℤ p) +ℤ (u *ℤ q) *ℤ (v *ℤ q) ≡ (u *ℤ v) *ℤ (k *ℤ k)
  shared u v =
      ap (λ z. z +ℤ (u *ℤ q) *ℤ (v *ℤ q)) (four u p v p) ∙ ap (λ z. (u *ℤ v) *ℤ (p *ℤ p) +ℤ z) (four u q v q) ∙ sym (mul-add (u *ℤ v) (p *ℤ p) (q *ℤ q))
      ∙ ap (λ z. (u *ℤ v) *ℤ z) one

  square_row : (c s x y : ℤ) → x *ℤ x ≡ (s *ℤ p) *ℤ (s *ℤ p) → y *ℤ y ≡ (s *ℤ q) *ℤ (s *ℤ q) → (k *ℤ c) *ℤ (k *ℤ c) +ℤ x *ℤ x +ℤ y *ℤ y ≡ (k *ℤ k) *ℤ (c *ℤ c +ℤ s *ℤ s)
  square_row c s x y ex ey =
      sums ((k *ℤ c) *ℤ (k *ℤ c)) (x *ℤ x) (y *ℤ y) ((k *ℤ k) *ℤ (c *ℤ c)) ((s *ℤ s) *ℤ (k *ℤ k)) ((k *ℤ k) *ℤ (s *ℤ s)) ((k *ℤ k) *ℤ (c *ℤ c +ℤ s *ℤ s))
      ((s *ℤ p) *ℤ (s *ℤ p)) ((s *ℤ q) *ℤ (s *ℤ q)) (four k c k c) ex ey (shared s s) (*ℤ_comm (s *ℤ s) (k *ℤ k)) (mul-add (k *ℤ k) (c *ℤ c) (s *ℤ s))
    where
      sums : (a b d e f g h i j : ℤ) → a ≡ e → b ≡ i → d ≡ j → i +ℤ j ≡ f → f ≡ g → h ≡ e +ℤ g → a +ℤ b +ℤ d ≡ h
      sums a b d e f g h i j ea eb ed ef eg eh = omega (arith, ints)

  zero_row : (c s : ℤ) → (k *ℤ c) *ℤ (k *ℤ s) +ℤ neg_ℤ (s *ℤ p) *ℤ (c *ℤ p) +ℤ neg_ℤ (s *ℤ q) *ℤ (c *ℤ q) ≡ pos 0
  zero_row c s =
      sums ((k *ℤ c) *ℤ (k *ℤ s)) (neg_ℤ (s *ℤ p) *ℤ (c *ℤ p)) (neg_ℤ (s *ℤ q) *ℤ (c *ℤ q)) ((k *ℤ k) *ℤ (c *ℤ s)) ((s *ℤ p) *ℤ (c *ℤ p)) ((s *ℤ q) *ℤ (c *ℤ q))
      ((s *ℤ c) *ℤ (k *ℤ k)) (four k c k s) (neg-mul (s *ℤ p) (c *ℤ p)) (neg-mul (s *ℤ q) (c *ℤ q)) (shared s c)
      (*ℤ_comm (s *ℤ c) (k *ℤ k) ∙ ap (λ z. (k *ℤ k) *ℤ z) (*ℤ_comm s c))
    where
      sums : (a b d e f g h : ℤ) → a ≡ e → b ≡ neg_ℤ f → d ≡ neg_ℤ g → f +ℤ g ≡ h → h ≡ e → a +ℤ b +ℤ d ≡ pos 0
      sums a b d e f g h ea eb ed eh ei = omega (arith, ints)

  -- that of z, which B doesn't turn
  crossed : (u n : ℤ) → (u *ℤ p) *ℤ (n *ℤ q) ≡ (u *ℤ q) *ℤ (n *ℤ p)
  crossed u n = four u p n q ∙ ap (λ z. (u *ℤ n) *ℤ z) (*ℤ_comm p q) ∙ sym (four u q n p)

  first_up : (u n x : ℤ) → x *ℤ pos 0 +ℤ neg_ℤ (u *ℤ p) *ℤ neg_ℤ (n *ℤ q) +ℤ neg_ℤ (u *ℤ q) *ℤ (n *ℤ p) ≡ pos 0
  first_up u n x =
      sums (x *ℤ pos 0) (neg_ℤ (u *ℤ p) *ℤ neg_ℤ (n *ℤ q)) (neg_ℤ (u *ℤ q) *ℤ (n *ℤ p)) ((u *ℤ p) *ℤ (n *ℤ q)) ((u *ℤ q) *ℤ (n *ℤ p)) (mul-zero x)
      (neg_both (u *ℤ p) (n *ℤ q)) (neg-mul (u *ℤ q) (n *ℤ p)) (crossed u n)
    where
      sums : (a b d f g : ℤ) → a ≡ pos 0 → b ≡ f → d ≡ neg_ℤ g → f ≡ g → a +ℤ b +ℤ d ≡ pos 0
      sums a b d f g ea eb ed e = omega (arith, ints)

  second_up : (u n x : ℤ) → x *ℤ pos 0 +ℤ (u *ℤ p) *ℤ neg_ℤ (n *ℤ q) +ℤ (u *ℤ q) *ℤ (n *ℤ p) ≡ pos 0
  second_up u n x =
      sums (x *ℤ pos 0) ((u *ℤ p) *ℤ neg_ℤ (n *ℤ q)) ((u *ℤ q) *ℤ (n *ℤ p)) ((u *ℤ p) *ℤ (n *ℤ q)) (mul-zero x) (mul-neg (u *ℤ p) (n *ℤ q)) (crossed u n)
    where
      sums : (a b d f : ℤ) → a ≡ pos 0 → b ≡ neg_ℤ f → f ≡ d → a +ℤ b +ℤ d ≡ pos 0
      sums a b d f ea eb e = omega (arith, ints)

  up_row : (n : ℤ) → pos 0 *ℤ pos 0 +ℤ neg_ℤ (n *ℤ q) *ℤ neg_ℤ (n *ℤ q) +ℤ (n *ℤ p) *ℤ (n *ℤ p) ≡ (n *ℤ n) *ℤ (k *ℤ k)
  up_row n =
      sums (neg_ℤ (n *ℤ q) *ℤ neg_ℤ (n *ℤ q)) ((n *ℤ q) *ℤ (n *ℤ q)) ((n *ℤ p) *ℤ (n *ℤ p)) ((n *ℤ n) *ℤ (k *ℤ k)) (neg_both (n *ℤ q) (n *ℤ q)) (shared n n)
    where
      sums : (a b d e : ℤ) → a ≡ b → d +ℤ b ≡ e → pos 0 +ℤ a +ℤ d ≡ e
      sums a b d e ea ed = omega (arith, ints)

-- ---- the numbers of the table

-- what is counted m times as often
in_times : (m n : ℕ) (v : ℤ) (x : Ratio) → IsIn n (pos 10000000 *ℤ v) (wide x) → IsIn (m * n) (pos 10000000 *ℤ (pos m *ℤ v)) (wide x)
in_times m n v x h = record {
  low = subst (λ (z : ℤ). z ≤ℤ (pos 10000000 *ℤ (pos m *ℤ v))) (sym (mul-assoc (pos m) (pos n) x.low))
      (subst (λ (z : ℤ). (pos m *ℤ (pos n *ℤ x.low)) ≤ℤ z) (swap (pos m) (pos 10000000) v) (scaled_le m (pos n *ℤ x.low) (pos 10000000 *ℤ v) h.low));
  high = subst (λ (z : ℤ). (pos 10000000 *ℤ (pos m *ℤ v)) ≤ℤ z) (sym (mul-assoc (pos m) (pos n) x.high))
      (subst (λ (z : ℤ). z ≤ℤ (pos m *ℤ (pos n *ℤ x.high))) (swap (pos m) (pos 10000000) v) (scaled_le m (pos 10000000 *ℤ v) (pos n *ℤ x.high) h.high));
}

in_negative : (n : ℕ) (v : ℤ) (x : Ratio) → IsIn n (pos 10000000 *ℤ v) (wide x) → IsIn n (pos 10000000 *ℤ neg_ℤ v) (wide (negative x))
in_negative n v x h = record {
  low = lower (pos 10000000 *ℤ v) (pos n *ℤ x.high) _ _ h.high (mul-neg (pos n) x.high) (mul-neg (pos 10000000) v);
  high = upper (pos 10000000 *ℤ v) (pos n *ℤ x.low) _ _ h.low (mul-neg (pos n) x.low) (mul-neg (pos 10000000) v);
}
  where
    lower : (v a b w : ℤ) → v ≤ℤ a → b ≡ neg_ℤ a → w ≡ neg_ℤ v → b ≤ℤ w
    lower v a b w h e f = omega (arith, ints)

    upper : (v a b w : ℤ) → a ≤ℤ v → b ≡ neg_ℤ a → w ≡ neg_ℤ v → w ≤ℤ b
    upper v a b w h e f = omega (arith, ints)

in_none : (n : ℕ) → IsIn n (pos 10000000 *ℤ pos 0) (wide (just 0))
in_none n = record { low = low n; high = high n }
  where
    low : (n : ℕ) → (pos n *ℤ pos 0) ≤ℤ (pos 10000000 *ℤ pos 0)
    low n = omega (arith, ints)

    high : (n : ℕ) → (pos 10000000 *ℤ pos 0) ≤ℤ (pos n *ℤ pos 0)
    high n = omega (arith, ints)

module _ (m n : ℕ) (u v : ℤ) (x y : Ratio) (in_x : IsIn n (pos 10000000 *ℤ u) (wide x)) (in_y : IsIn m (pos 10000000 *ℤ v) (wide y)) where
  abbrev least : ℤ
  least = least_of (x.low *ℤ y.low) (x.low *ℤ y.high) (x.high *ℤ y.low) (x.high *ℤ y.high)

  abbrev most : ℤ
  most = greatest_of (x.low *ℤ y.low) (x.low *ℤ y.high) (x.high *ℤ y.low) (x.high *ℤ y.high)

  both_is : (pos 10000000 *ℤ v) *ℤ (pos 10000000 *ℤ u) ≡ pos 10000000 *ℤ (pos 10000000 *ℤ (u *ℤ v))
  both_is = mul-assoc (pos 10000000) v (pos 10000000 *ℤ u) ∙ ap (λ z. pos 10000000 *ℤ z) (swap v (pos 10000000) u ∙ ap (λ z. pos 10000000 *ℤ z) (*ℤ_comm v u))

  count_is : (z : ℤ) → pos n *ℤ (pos m *ℤ z) ≡ pos (m * n) *ℤ z
  count_is z = swap (pos n) (pos m) z ∙ sym (mul-assoc (pos m) (pos n) z)

  above : (pos (m * n) *ℤ least) ≤ℤ (pos 10000000 *ℤ (pos 10000000 *ℤ (u *ℤ v)))
  above =
      let w = pos 10000000 *ℤ v in
      let each : (z : ℤ) → (pos m *ℤ int_min (z *ℤ y.low) (z *ℤ y.high)) ≤ℤ (w *ℤ z) = λ z. subst (λ (t : ℤ). (pos m *ℤ int_min (z *ℤ y.low) (z *ℤ y.high)) ≤ℤ t) (*ℤ_comm z w) (product_low z y.low y.high w m in_y.low in_y.high) in
      let low = min_holds (λ (z : ℤ). (pos m *ℤ least) ≤ℤ z) (w *ℤ x.low) (w *ℤ x.high)
      (trans _ _ _ (scaled_le m least _ (first_least (int_min (x.low *ℤ y.low) (x.low *ℤ y.high)) (int_min (x.high *ℤ y.low) (x.high *ℤ y.high)))) (each x.low))
      (trans _ _ _ (scaled_le m least _ (second_least (int_min (x.low *ℤ y.low) (x.low *ℤ y.high)) (int_min (x.high *ℤ y.low) (x.high *ℤ y.high)))) (each x.high)) in
      subst (λ (t : ℤ). t ≤ℤ (pos 10000000 *ℤ (pos 10000000 *ℤ (u *ℤ v)))) (count_is least)
      (subst (λ (t : ℤ). (pos n *ℤ (pos m *ℤ least)) ≤ℤ t) both_is
      (trans _ _ _ (scaled_le n (pos m *ℤ least) (int_min (w *ℤ x.low) (w *ℤ x.high)) low) (product_low w x.low x.high (pos 10000000 *ℤ u) n in_x.low in_x.high)))
    where
      first_least : (a b : ℤ) → int_min a b ≤ℤ a
      first_least a b = min_left a b

      second_least : (a b : ℤ) → int_min a b ≤ℤ b
      second_least a b = min_right a b

  below : (pos 10000000 *ℤ (pos 10000000 *ℤ (u *ℤ v))) ≤ℤ (pos (m * n) *ℤ most)
  below =
      let w = pos 10000000 *ℤ v in
      let each : (z : ℤ) → (w *ℤ z) ≤ℤ (pos m *ℤ int_max (z *ℤ y.low) (z *ℤ y.high)) = λ z. subst (λ (t : ℤ). t ≤ℤ (pos m *ℤ int_max (z *ℤ y.low) (z *ℤ y.high))) (*ℤ_comm z w) (product_high z y.low y.high w m in_y.low in_y.high) in
      let high = max_holds (λ (z : ℤ). z ≤ℤ (pos m *ℤ most)) (w *ℤ x.low) (w *ℤ x.high)
      (trans _ _ _ (each x.low) (scaled_le m _ most (max_left (int_max (x.low *ℤ y.low) (x.low *ℤ y.high)) (int_max (x.high *ℤ y.low) (x.high *ℤ y.high)))))
      (trans _ _ _ (each x.high) (scaled_le m _ most (max_right (int_max (x.low *ℤ y.low) (x.low *ℤ y.high)) (int_max (x.high *ℤ y.low) (x.high *ℤ y.high))))) in
      subst (λ (t : ℤ). (pos 10000000 *ℤ (pos 10000000 *ℤ (u *ℤ v))) ≤ℤ t) (count_is most)
      (subst (λ (t : ℤ). t ≤ℤ (pos n *ℤ (pos m *ℤ most))) both_is
      (trans _ _ _ (product_high w x.low x.high (pos 10000000 *ℤ u) n in_x.low in_x.high) (scaled_le n (int_max (w *ℤ x.low) (w *ℤ x.high)) (pos m *ℤ most) high)))

  pub in_product : IsIn (m * n) (pos 10000000 *ℤ (u *ℤ v)) (wide (product x y))
  in_product = record { low = floor_in (m * n) (pos 10000000 *ℤ (u *ℤ v)) least above; high = ceil_in (m * n) (pos 10000000 *ℤ (u *ℤ v)) most below }

-- ---- a turn

turned_count : (m n : ℕ) → m * n ≡ n * m
turned_count m n = omega arith

module _ (i j : ℤ) (a b : Angle) (on_a : IsStep i a) (on_b : IsStep j b) where
  abbrev all : ℕ
  all = a.over * b.over

  turned_about : (k l : Along) → IsIn all (pos 10000000 *ℤ axes_by a b k l) (wide (towards (column (turning_by i j) k) l))
  turned_about X X = in_times a.over b.over b.cosine (cosine j) on_b.is_cosine
  turned_about X Y = in_times a.over b.over b.sine (sine j) on_b.is_sine
  turned_about X Z = in_none all
  turned_about Y X = in_negative all (b.sine *ℤ a.cosine) (product (sine j) (cosine i)) (in_product a.over b.over b.sine a.cosine (sine j) (cosine i) on_b.is_sine on_a.is_cosine)
  turned_about Y Y = in_product a.over b.over b.cosine a.cosine (cosine j) (cosine i) on_b.is_cosine on_a.is_cosine
  turned_about Y Z = in_negative all (pos b.over *ℤ a.sine) (sine i) (other (in_times b.over a.over a.sine (sine i) on_a.is_sine))
    where
      other : IsIn (b.over * a.over) (pos 10000000 *ℤ (pos b.over *ℤ a.sine)) (wide (sine i)) → IsIn all (pos 10000000 *ℤ (pos b.over *ℤ a.sine)) (wide (sine i))
      other h = subst (λ (n : ℕ). IsIn n (pos 10000000 *ℤ (pos b.over *ℤ a.sine)) (wide (sine i))) (turned_count b.over a.over) h
  turned_about Z X = in_negative all (b.sine *ℤ a.sine) (product (sine j) (sine i)) (in_product a.over b.over b.sine a.sine (sine j) (sine i) on_b.is_sine on_a.is_sine)
  turned_about Z Y = in_product a.over b.over b.cosine a.sine (cosine j) (sine i) on_b.is_cosine on_a.is_sine
  turned_about Z Z =
      subst (λ (n : ℕ). IsIn n (pos 10000000 *ℤ (pos b.over *ℤ a.cosine)) (wide (cosine i))) (turned_count b.over a.over)
      (in_times b.over a.over a.cosine (cosine i) on_a.is_cosine)

  abbrev m : Along → Along → ℤ
  m = axes_by a b

  abbrev times : Along → Along → ℤ
  times k l = over_axes (λ h. m h k *ℤ m h l)

  whole_a : a.cosine *ℤ a.cosine +ℤ a.sine *ℤ a.sine ≡ pos a.over *ℤ pos a.over
  whole_a = on_a.angle.whole

  squares_of : (x : ℤ) → x ≡ pos (b.over * b.over) → (pos a.over *ℤ pos a.over) *ℤ x ≡ pos (all * all)
  squares_of x e = ap (λ z. (pos a.over *ℤ pos a.over) *ℤ z) e ∙ ap pos (collect a.over b.over)
    where
      collect : (m n : ℕ) → (m * m) * (n * n) ≡ (m * n) * (m * n)
      collect m n = omega arith

  turned_over : (x y z : ℤ) → x +ℤ y ≡ z → y +ℤ x ≡ z
  turned_over x y z e = omega (arith, ints)

  rows_are : (k l : Along) → times k l ≡ rows_give all k l
  rows_are X X =
      square_row (pos a.over) a.cosine a.sine whole_a b.cosine b.sine (m Y X) (m Z X) (neg_both (b.sine *ℤ a.cosine) (b.sine *ℤ a.cosine))
      (neg_both (b.sine *ℤ a.sine) (b.sine *ℤ a.sine)) ∙ squares_of _ on_b.angle.whole
  rows_are X Y = zero_row (pos a.over) a.cosine a.sine whole_a b.cosine b.sine
  rows_are X Z = first_up (pos a.over) a.cosine a.sine whole_a b.sine (pos b.over) (m X X)
  rows_are Y X = turn_over (λ h. m h Y) (λ h. m h X) ∙ zero_row (pos a.over) a.cosine a.sine whole_a b.cosine b.sine
  rows_are Y Y =
      square_row (pos a.over) a.cosine a.sine whole_a b.sine b.cosine (m Y Y) (m Z Y) refl refl
      ∙ squares_of _ (turned_over (b.cosine *ℤ b.cosine) (b.sine *ℤ b.sine) (pos (b.over * b.over)) on_b.angle.whole)
  rows_are Y Z = second_up (pos a.over) a.cosine a.sine whole_a b.cosine (pos b.over) (m X Y)
  rows_are Z X = turn_over (λ h. m h Z) (λ h. m h X) ∙ first_up (pos a.over) a.cosine a.sine whole_a b.sine (pos b.over) (m X X)
  rows_are Z Y = turn_over (λ h. m h Z) (λ h. m h Y) ∙ second_up (pos a.over) a.cosine a.sine whole_a b.cosine (pos b.over) (m X Y)
  rows_are Z Z = up_row (pos a.over) a.cosine a.sine whole_a (pos b.over) ∙ *ℤ_comm (pos b.over *ℤ pos b.over) (pos a.over *ℤ pos a.over) ∙ squares_of _ refl

  pub angles_turn : IsTurn (turning_by i j) all m
  angles_turn = record { positive = some a.over b.over on_a.angle.positive on_b.angle.positive; rows = rows_are; within = turned_about }
    where
      some : (m n : ℕ) → 0 < m → 0 < n → 0 < m * n
      some (suc m) (suc n) h k = omega arith
      some zero n h k = absurd (omega arith)
      some (suc m) zero h k = absurd (omega arith)

pub angles_give_turns : AnglesGiveTurns
angles_give_turns i j a b on_a on_b = angles_turn i j a b on_a on_b

-- ---- where such a turn takes a place

module _ (a b : Angle) (s : ℕ) (p : Along → ℤ) where
  plain : (z : ℤ) → z -ℤ pos s *ℤ pos 0 ≡ z
  plain z = by z (pos s *ℤ pos 0) (mul-zero (pos s))
    where
      by : (z w : ℤ) → w ≡ pos 0 → z -ℤ w ≡ z
      by z w e = omega (arith, ints)

  beside : (k c x : ℤ) → (k *ℤ c) *ℤ x ≡ c *ℤ (k *ℤ x)
  beside k c x = mul-assoc k c x ∙ swap k c x

  -- B on what A has tilted
  first_is : (k c u p q x y z : ℤ) → (k *ℤ c) *ℤ x +ℤ neg_ℤ (u *ℤ p) *ℤ y +ℤ neg_ℤ (u *ℤ q) *ℤ z ≡ c *ℤ (k *ℤ x) -ℤ u *ℤ (q *ℤ z +ℤ p *ℤ y)
  first_is k c u p q x y z =
      sums _ _ _ (c *ℤ (k *ℤ x)) (u *ℤ (p *ℤ y)) (u *ℤ (q *ℤ z)) (u *ℤ (q *ℤ z +ℤ p *ℤ y)) (beside k c x) (neg-mul (u *ℤ p) y ∙ ap neg_ℤ (mul-assoc u p y))
      (neg-mul (u *ℤ q) z ∙ ap neg_ℤ (mul-assoc u q z)) (mul-add u (q *ℤ z) (p *ℤ y))
    where
      sums : (d e f g h i j : ℤ) → d ≡ g → e ≡ neg_ℤ h → f ≡ neg_ℤ i → j ≡ i +ℤ h → d +ℤ e +ℤ f ≡ g -ℤ j
      sums d e f g h i j ed ee ef ej = omega (arith, ints)

  second_is : (k c u p q x y z : ℤ) → (k *ℤ u) *ℤ x +ℤ (c *ℤ p) *ℤ y +ℤ (c *ℤ q) *ℤ z ≡ u *ℤ (k *ℤ x) +ℤ c *ℤ (q *ℤ z +ℤ p *ℤ y)
  second_is k c u p q x y z =
      sums _ _ _ (u *ℤ (k *ℤ x)) (c *ℤ (p *ℤ y)) (c *ℤ (q *ℤ z)) (c *ℤ (q *ℤ z +ℤ p *ℤ y)) (beside k u x) (mul-assoc c p y) (mul-assoc c q z) (mul-add c (q *ℤ z) (p *ℤ y))
    where
      sums : (d e f g h i j : ℤ) → d ≡ g → e ≡ h → f ≡ i → j ≡ i +ℤ h → d +ℤ e +ℤ f ≡ g +ℤ j
      sums d e f g h i j ed ee ef ej = omega (arith, ints)

  third_is : (n p q x y z : ℤ) → pos 0 *ℤ x +ℤ neg_ℤ (n *ℤ q) *ℤ y +ℤ (n *ℤ p) *ℤ z ≡ n *ℤ (p *ℤ z -ℤ q *ℤ y)
  third_is n p q x y z =
      sums _ _ _ (n *ℤ (q *ℤ y)) (n *ℤ (p *ℤ z)) (n *ℤ (p *ℤ z -ℤ q *ℤ y)) (none x) (neg-mul (n *ℤ q) y ∙ ap neg_ℤ (mul-assoc n q y)) (mul-assoc n p z) (mul-sub n (p *ℤ z) (q *ℤ y))
    where
      none : (x : ℤ) → pos 0 *ℤ x ≡ pos 0
      none x = omega (arith, ints)

      sums : (d e f h i j : ℤ) → d ≡ pos 0 → e ≡ neg_ℤ h → f ≡ i → j ≡ i -ℤ h → d +ℤ e +ℤ f ≡ j
      sums d e f h i j ed ee ef ej = omega (arith, ints)

  three_ways : (f : ℤ → ℤ → ℤ → ℤ) → f (way_from s origin p X) (way_from s origin p Y) (way_from s origin p Z) ≡ f (p X) (p Y) (p Z)
  three_ways f = ap (λ z. f z (way_from s origin p Y) (way_from s origin p Z)) (plain (p X)) ∙ ap (λ z. f (p X) z (way_from s origin p Z)) (plain (p Y)) ∙ ap (λ z. f (p X) (p Y) z) (plain (p Z))

  swung_is : (l : Along) → swung a b p l ≡ turned_place (axes_by a b) s origin p l
  swung_is X =
      sym (three_ways (λ x y z. axes_by a b X X *ℤ x +ℤ axes_by a b Y X *ℤ y +ℤ axes_by a b Z X *ℤ z)
      ∙ first_is (pos a.over) b.cosine b.sine a.cosine a.sine (p X) (p Y) (p Z))
  swung_is Y =
      sym (three_ways (λ x y z. axes_by a b X Y *ℤ x +ℤ axes_by a b Y Y *ℤ y +ℤ axes_by a b Z Y *ℤ z)
      ∙ second_is (pos a.over) b.cosine b.sine a.cosine a.sine (p X) (p Y) (p Z))
  swung_is Z =
      sym (three_ways (λ x y z. axes_by a b X Z *ℤ x +ℤ axes_by a b Y Z *ℤ y +ℤ axes_by a b Z Z *ℤ z)
      ∙ third_is (pos b.over) a.cosine a.sine (p X) (p Y) (p Z))

same_place : (boxes : List Block3) (n : ℕ) (y z : Along → ℤ) → ((l : Along) → y l ≡ z l) → IsCovered boxes n y → IsCovered boxes n z
same_place boxes n y z same h = record {
  box = h.box;
  stands = h.stands;
  inside = record {
    low = λ l. subst (λ (x : ℤ). (pos n *ℤ corner_on h.box.low l) ≤ℤ x) (same l) (h.inside.low l);
    high = λ l. subst (λ (x : ℤ). x ≤ℤ (pos n *ℤ corner_on h.box.high l)) (same l) (h.inside.high l);
  };
}

pub swing_holds_what_turns : SwingHoldsWhatTurns
swing_holds_what_turns bytes d read a b on_a on_b up s p there =
    same_place _ _ (swung a b p) (turned_place (axes_by a b) s origin p) (swung_is a b s p) (swing_holds_read bytes d read a b on_a on_b up s p there)
