-- A direction along which a box lies before the corners of a triangle keeps the two apart.
use Rattle.std.proofs.Common.{◌≡◌, ℕ, ℤ, pos, negsuc, ◌+◌, ◌*◌, ◌<◌, ◌≤◌, ◌+ℤ◌, ◌*ℤ◌, ◌≤ℤ◌, zero, suc, arith, ap, refl, sym, subst}
use Rattle.std.specs.Int.{int_max}
use Rattle.std.proofs.Math.Nat.{mul-le-mul_left}
use Rattle.std.proofs.lemmas.Int.{ints, clamps, unsigned_abs-mul}
use Rattle.std.proofs.lemmas.Nat.{mul-le}
use Rattle.std.specs.Prelude.{unsigned_abs}
use borrow.Author.Differences.{up, down}
use lib.Signed.{◌<ℤ◌}
use Rattle.vcm_covering.specs.Parting.{Corners, IsPoint, IsHeld, DirectionsPart, OpenDirectionsPart, along, reach}

-- products keep the order of two whole numbers
pub up_scaled : (m : ℕ) (x y : ℤ) → x ≤ℤ y → (pos m *ℤ x) ≤ℤ (pos m *ℤ y)
up_scaled m x y le = let h : up x + down y ≤ up y + down x = omega (arith, ints) in omega (arith, ints, mul-le-mul_left m h)

-- and turn it
down_scaled : (m : ℕ) (x y : ℤ) → x ≤ℤ y → (negsuc m *ℤ y) ≤ℤ (negsuc m *ℤ x)
down_scaled m x y le = let h : up x + down y ≤ up y + down x = omega (arith, ints) in omega (arith, ints, mul-le-mul_left (m + 1) h)

sum_is : (x y : ℤ) → up (x +ℤ y) + down x + down y ≡ down (x +ℤ y) + up x + up y
sum_is x y = omega (arith, ints)

pub scale_is : (s : ℕ) (x : ℤ) → up (pos s *ℤ x) + s * down x ≡ down (pos s *ℤ x) + s * up x
scale_is s x = omega (arith, ints)

product_is : (n x : ℤ) → up (n *ℤ x) + up n * down x + down n * up x ≡ down (n *ℤ x) + up n * up x + down n * down x
product_is n x = omega (arith, ints)

-- products and sums of whole numbers, as of any ring
pub spread : (n x y : ℤ) → n *ℤ (x +ℤ y) ≡ n *ℤ x +ℤ n *ℤ y
spread n x y = omega (arith, ints, ap (λ (m : ℕ). up n * m) (sum_is x y), ap (λ (m : ℕ). down n * m) (sum_is x y))

swapped : (s : ℕ) (n x : ℤ) → n *ℤ (pos s *ℤ x) ≡ pos s *ℤ (n *ℤ x)
swapped s n x = omega (arith, ints, ap (λ (m : ℕ). up n * m) (scale_is s x), ap (λ (m : ℕ). down n * m) (scale_is s x), ap (λ (m : ℕ). s * m) (product_is n x))

max_left : (x y : ℤ) → x ≤ℤ int_max x y
max_left x y = omega (arith, ints, clamps)

max_right : (x y : ℤ) → y ≤ℤ int_max x y
max_right x y = omega (arith, ints, clamps)

-- on one axis
on_one : (n low high x : ℤ) (s : ℕ) → (pos s *ℤ low) ≤ℤ x → x ≤ℤ (pos s *ℤ high) → (n *ℤ x) ≤ℤ (pos s *ℤ int_max (n *ℤ low) (n *ℤ high))
on_one (pos m) low high x s l h = omega (arith, ints, up_scaled m x (pos s *ℤ high) h, swapped s (pos m) high, up_scaled s (pos m *ℤ high) _ (max_right (pos m *ℤ low) (pos m *ℤ high)))
on_one (negsuc m) low high x s l h = omega (arith, ints, down_scaled m (pos s *ℤ low) x l, swapped s (negsuc m) low, up_scaled s (negsuc m *ℤ low) _ (max_left (negsuc m *ℤ low) (negsuc m *ℤ high)))

-- a sum of three, s times
scaled_sum : (s : ℕ) (x y z : ℤ) → pos s *ℤ (x +ℤ y +ℤ z) ≡ pos s *ℤ x +ℤ pos s *ℤ y +ℤ pos s *ℤ z
scaled_sum s x y z = omega (arith, ints, spread (pos s) (x +ℤ y) z, spread (pos s) x y)

held : (n low high : ℕ → ℤ) (s : ℕ) (x : ℕ → ℤ) → IsHeld low high s x → along n x ≤ℤ (pos s *ℤ reach n low high)
held n low high s x h =
    let x0 = on_one (n 0) (low 0) (high 0) (x 0) s (h.from_low 0 (omega arith)) (h.to_high 0 (omega arith)) in
    let x1 = on_one (n 1) (low 1) (high 1) (x 1) s (h.from_low 1 (omega arith)) (h.to_high 1 (omega arith)) in
    let x2 = on_one (n 2) (low 2) (high 2) (x 2) s (h.from_low 2 (omega arith)) (h.to_high 2 (omega arith)) in
    omega (arith, ints, scaled_sum s (int_max (n 0 *ℤ low 0) (n 0 *ℤ high 0)) (int_max (n 1 *ℤ low 1) (n 1 *ℤ high 1)) (int_max (n 2 *ℤ low 2) (n 2 *ℤ high 2)))

-- a product with a mean
mean : (n a b c : ℤ) (u v w : ℕ) → n *ℤ (pos u *ℤ a +ℤ pos v *ℤ b +ℤ pos w *ℤ c) ≡ pos u *ℤ (n *ℤ a) +ℤ pos v *ℤ (n *ℤ b) +ℤ pos w *ℤ (n *ℤ c)
mean n a b c u v w = omega (arith, ints, spread n (pos u *ℤ a +ℤ pos v *ℤ b) (pos w *ℤ c), spread n (pos u *ℤ a) (pos v *ℤ b), swapped u n a, swapped v n b, swapped w n c)

-- the same of a direction: its three axes, then the corners
along_mean : (n : ℕ → ℤ) (t : Corners) (s : ℕ) (x : ℕ → ℤ) (p : IsPoint t s x) →
    along n x ≡ pos p.u *ℤ along n t.a +ℤ pos p.v *ℤ along n t.b +ℤ pos p.w *ℤ along n t.c
along_mean n t s x p =
    let e0 = ap (λ (z : ℤ). n 0 *ℤ z) (p.on_axis 0 (omega arith)) in
    let e1 = ap (λ (z : ℤ). n 1 *ℤ z) (p.on_axis 1 (omega arith)) in
    let e2 = ap (λ (z : ℤ). n 2 *ℤ z) (p.on_axis 2 (omega arith)) in
    omega (
      arith,
      ints,
      e0,
      e1,
      e2,
      mean (n 0) (t.a 0) (t.b 0) (t.c 0) p.u p.v p.w,
      mean (n 1) (t.a 1) (t.b 1) (t.c 1) p.u p.v p.w,
      mean (n 2) (t.a 2) (t.b 2) (t.c 2) p.u p.v p.w,
      scaled_sum p.u (n 0 *ℤ t.a 0) (n 1 *ℤ t.a 1) (n 2 *ℤ t.a 2),
      scaled_sum p.v (n 0 *ℤ t.b 0) (n 1 *ℤ t.b 1) (n 2 *ℤ t.b 2),
      scaled_sum p.w (n 0 *ℤ t.c 0) (n 1 *ℤ t.c 1) (n 2 *ℤ t.c 2),
    )

-- what three numbers exceed, their mean exceeds
beyond : (r a b c : ℤ) (u v w s : ℕ) → r <ℤ a → r <ℤ b → r <ℤ c → u + v + w ≡ s → 0 < s → (pos s *ℤ r) <ℤ (pos u *ℤ a +ℤ pos v *ℤ b +ℤ pos w *ℤ c)
beyond r a b c u v w s la lb lc whole positive =
    let ha = up_scaled u (r +ℤ pos 1) a (omega (arith, ints)) in
    let hb = up_scaled v (r +ℤ pos 1) b (omega (arith, ints)) in
    let hc = up_scaled w (r +ℤ pos 1) c (omega (arith, ints)) in
    let e = ap (λ (m : ℕ). m * up r) whole in
    let f = ap (λ (m : ℕ). m * down r) whole in
    omega (arith, ints, ha, hb, hc, spread (pos u) r (pos 1), spread (pos v) r (pos 1), spread (pos w) r (pos 1), e, f)

-- a direction along which the box lies before all three corners
pub apart : DirectionsPart
apart n low high t before s x p h =
    let inside = held n low high s x h in
    let is = along_mean n t s x p in
    let out = beyond (reach n low high) (along n t.a) (along n t.b) (along n t.c) p.u p.v p.w s before.a before.b before.c p.whole p.positive in
    absurd (omega (arith, ints, inside, is, out))

-- a product of two small numbers is small
pub small_product : (a b : ℤ) (m n : ℕ) → unsigned_abs a ≤ m → unsigned_abs b ≤ n → unsigned_abs (a *ℤ b) ≤ m * n
small_product a b m n p q = subst (λ (k : ℕ). k ≤ m * n) (sym (unsigned_abs-mul a b)) (mul-le (unsigned_abs a) (unsigned_abs b) m n p q)

-- the place is nearer than the farther end on one axis that is open
up_strict : (m : ℕ) (x y : ℤ) → x <ℤ y → (pos (m + 1) *ℤ x) <ℤ (pos (m + 1) *ℤ y)
up_strict m x y lt = let h = up_scaled (m + 1) (x +ℤ pos 1) y (omega (arith, ints)) in omega (arith, ints, h, spread (pos (m + 1)) x (pos 1))

down_strict : (m : ℕ) (x y : ℤ) → x <ℤ y → (negsuc m *ℤ y) <ℤ (negsuc m *ℤ x)
down_strict m x y lt = let h = down_scaled m (x +ℤ pos 1) y (omega (arith, ints)) in omega (arith, ints, h, spread (negsuc m) x (pos 1))

open_one : (n low high x : ℤ) (s : ℕ) → (pos 0 <ℤ n → x <ℤ (pos s *ℤ high)) → (n <ℤ pos 0 → (pos s *ℤ low) <ℤ x) → (n ≡ pos 0 → ⊥) →
    (n *ℤ x) <ℤ (pos s *ℤ int_max (n *ℤ low) (n *ℤ high))
open_one (pos zero) low high x s h l z = absurd (z refl)
open_one (pos (suc m)) low high x s h l z = omega (arith, ints, up_strict m x (pos s *ℤ high) (h (omega (arith, ints))), swapped s (pos (suc m)) high, up_scaled s (pos (suc m) *ℤ high) _ (max_right (pos (suc m) *ℤ low) (pos (suc m) *ℤ high)))
open_one (negsuc m) low high x s h l z = omega (arith, ints, down_strict m (pos s *ℤ low) x (l (omega (arith, ints))), swapped s (negsuc m) low, up_scaled s (negsuc m *ℤ low) _ (max_left (negsuc m *ℤ low) (negsuc m *ℤ high)))

-- three numbers that are reached, their mean reaches
up_to : (r a b c : ℤ) (u v w s : ℕ) → r ≤ℤ a → r ≤ℤ b → r ≤ℤ c → u + v + w ≡ s → (pos s *ℤ r) ≤ℤ (pos u *ℤ a +ℤ pos v *ℤ b +ℤ pos w *ℤ c)
up_to r a b c u v w s la lb lc whole =
    let e = ap (λ (m : ℕ). m * up r) whole in
    let f = ap (λ (m : ℕ). m * down r) whole in
    omega (arith, ints, up_scaled u r a la, up_scaled v r b lb, up_scaled w r c lc, e, f)

nearer : (n low high : ℕ → ℤ) (s : ℕ) (x : ℕ → ℤ) (k : ℕ) → k < 3 → IsHeld low high s x → (n k *ℤ x k) <ℤ (pos s *ℤ int_max (n k *ℤ low k) (n k *ℤ high k)) →
    along n x <ℤ (pos s *ℤ reach n low high)
nearer n low high s x k lt h strict =
    let x0 = on_one (n 0) (low 0) (high 0) (x 0) s (h.from_low 0 (omega arith)) (h.to_high 0 (omega arith)) in
    let x1 = on_one (n 1) (low 1) (high 1) (x 1) s (h.from_low 1 (omega arith)) (h.to_high 1 (omega arith)) in
    let x2 = on_one (n 2) (low 2) (high 2) (x 2) s (h.from_low 2 (omega arith)) (h.to_high 2 (omega arith)) in
    let sum = scaled_sum s (int_max (n 0 *ℤ low 0) (n 0 *ℤ high 0)) (int_max (n 1 *ℤ low 1) (n 1 *ℤ high 1)) (int_max (n 2 *ℤ low 2) (n 2 *ℤ high 2)) in
    by_axis k lt strict x0 x1 x2 sum
  where
    by_axis : (k : ℕ) → k < 3 → (n k *ℤ x k) <ℤ (pos s *ℤ int_max (n k *ℤ low k) (n k *ℤ high k)) →
        (n 0 *ℤ x 0) ≤ℤ (pos s *ℤ int_max (n 0 *ℤ low 0) (n 0 *ℤ high 0)) →
        (n 1 *ℤ x 1) ≤ℤ (pos s *ℤ int_max (n 1 *ℤ low 1) (n 1 *ℤ high 1)) →
        (n 2 *ℤ x 2) ≤ℤ (pos s *ℤ int_max (n 2 *ℤ low 2) (n 2 *ℤ high 2)) →
        pos s *ℤ reach n low high ≡ pos s *ℤ int_max (n 0 *ℤ low 0) (n 0 *ℤ high 0) +ℤ pos s *ℤ int_max (n 1 *ℤ low 1) (n 1 *ℤ high 1) +ℤ pos s *ℤ int_max (n 2 *ℤ low 2) (n 2 *ℤ high 2) →
        along n x <ℤ (pos s *ℤ reach n low high)
    by_axis zero lt strict x0 x1 x2 sum = omega (arith, ints)
    by_axis (suc zero) lt strict x0 x1 x2 sum = omega (arith, ints)
    by_axis (suc (suc zero)) lt strict x0 x1 x2 sum = omega (arith, ints)
    by_axis (suc (suc (suc k))) lt strict x0 x1 x2 sum = absurd (omega arith)

-- a direction along which the box reaches up to the corners, where an end that it points to is open
pub apart_open : OpenDirectionsPart
apart_open n low high open_low open_high t k up_to_them at s x p inside =
    let strict = open_one (n k) (low k) (high k) (x k) s (λ h. inside.off_high k at.axis (at.up h)) (λ h. inside.off_low k at.axis (at.down h)) at.some in
    let near = nearer n low high s x k at.axis inside.held strict in
    let is = along_mean n t s x p in
    let out = up_to (reach n low high) (along n t.a) (along n t.b) (along n t.c) p.u p.v p.w s up_to_them.a up_to_them.b up_to_them.c p.whole in
    absurd (omega (arith, ints, near, is, out))
