-- How far a cylinder stands out of its axis, along a direction that three axes square to each other see.
use Rattle.std.proofs.Common.{◌≡◌, ℕ, ℤ, pos, negsuc, zero, suc, ◌+◌, ◌*◌, ◌^◌, ◌<◌, ◌≤◌, ◌+ℤ◌, ◌-ℤ◌, ◌*ℤ◌, ◌≤ℤ◌, neg_ℤ, Bool, true, false, arith, ap, refl, ◌∙◌}
use Rattle.std.specs.Prelude.{unsigned_abs, ◌==◌}
use Rattle.std.specs.Int.{int_div_euclid, int_min, int_max}
use Rattle.std.proofs.Math.Nat.{mul-le-mul_left, mul-le-mul_right}
use Rattle.std.proofs.lemmas.Int.{ints, unsigned_abs-mul}
use Rattle.std.proofs.lemmas.Bool.Decides.{Decides-eqb}
use lib.Signed.{◌<ℤ◌}
use Rattle.vcm_hardware.specs.declared.interval.Interval.{Interval}
use Rattle.vcm_hardware.specs.Intervals.{half_up, root_up, root_down, rounded_up}
use Rattle.vcm_hardware.specs.Slabs.{hull}
use Rattle.vcm_hardware.specs.Holding.{IsIn}
use Rattle.vcm_hardware.proofs.Roots.{IsRoot, root_by_is, exact_root, square_le}
use Rattle.vcm_hardware.proofs.Products.{mul-sub, mul-zero, scaled_le, trans, min_left, min_right, max_left, max_right, min_holds, max_holds, product_low, product_high}
use Rattle.vcm_num.proofs.Ring.{mul-add, mul-assoc}

-- ---- the width

-- twice a product is at most the sum of the squares
pub twice_product : (x y : ℕ) → 2 * (x * y) ≤ x * x + y * y
twice_product zero y = omega arith
twice_product (suc x) zero = omega arith
twice_product (suc x) (suc y) = omega (arith, twice_product x y)

-- u, v and w are what a direction measures along the three axes, the square of its length being k. It measures at least l along the first one, so the others
-- carry what is not farther than s * d / 2 off that axis no farther than r / 2 of this
pub stands_out : (k u v w b c n s d l r : ℕ) → u * u + v * v + w * w ≡ n * n * k → n * l ≤ u → 4 * (b * b + c * c) ≤ (s * d) * (s * d) → k ≤ l * l + r * r
    → 2 * (v * b + w * c) ≤ (s * n) * (d * r)
stands_out k u v w b c n s d l r whole surely round root =
    let first : (n * l) * (n * l) ≤ u * u = square_le (n * l) u surely in
    let all : (n * n) * k ≤ (n * n) * (l * l + r * r) = mul-le-mul_left (n * n) root in
    let rest : v * v + w * w ≤ (n * n) * (r * r) = omega (arith, first, all, whole) in
    let twice : 2 * ((v * c) * (w * b)) ≤ (v * c) * (v * c) + (w * b) * (w * b) = twice_product (v * c) (w * b) in
    let split : (2 * (v * b + w * c)) * (2 * (v * b + w * c)) ≤ (v * v + w * w) * (4 * (b * b + c * c)) = omega (arith, twice) in
    let near : (v * v + w * w) * (4 * (b * b + c * c)) ≤ ((n * n) * (r * r)) * (4 * (b * b + c * c)) = mul-le-mul_right (4 * (b * b + c * c)) rest in
    let far : ((n * n) * (r * r)) * (4 * (b * b + c * c)) ≤ ((n * n) * (r * r)) * ((s * d) * (s * d)) = mul-le-mul_left ((n * n) * (r * r)) round in
    let end : (2 * (v * b + w * c)) * (2 * (v * b + w * c)) ≤ ((s * n) * (d * r)) * ((s * n) * (d * r)) = omega (arith, split, near, far) in
    exact_root (2 * (v * b + w * c)) ((s * n) * (d * r)) _ refl end

-- ---- roots and halves

rounded_holds : (n r : ℕ) → IsRoot n r → n ≤ rounded_up n r * rounded_up n r
rounded_holds n r is = by (r * r == n) refl
  where
    by : (t : Bool) → (r * r == n) ≡ t → n ≤ rounded_up n r * rounded_up n r
    by true e = let same : r * r ≡ n = (Decides-eqb (r * r) n).0 e in rw e (omega (arith, same))
    by false e = rw e (omega (arith, is.above))

pub root_is : (n : ℕ) → n < 2 ^ 128 → IsRoot n (root_down n)
unfolding root_down
root_is n fits = root_by_is 64 0 n (omega arith) (grind arith)

-- the square of a root, up, is no less
pub root_holds : (z : ℤ) → z <ℤ pos (2 ^ 128) → z ≤ℤ pos (unsigned_abs (root_up z) * unsigned_abs (root_up z))
root_holds (pos n) fits =
    let h : n ≤ rounded_up n (root_down n) * rounded_up n (root_down n) = rounded_holds n (root_down n) (root_is n (omega (arith, ints, fits))) in
    omega (arith, ints, h)
root_holds (negsuc n) fits = omega (arith, ints)

pub root_size : (z : ℤ) → root_up z ≡ pos (unsigned_abs (root_up z))
root_size (pos n) = refl
root_size (negsuc n) = refl

-- twice a half, up, is no less
halved : (y : ℤ) → (y -ℤ pos 1) ≤ℤ (pos 2 *ℤ int_div_euclid y (pos 2))
halved (pos n) = omega (arith, ints)
halved (negsuc n) = omega (arith, ints)

pub half_holds : (n : ℕ) → (half_up (pos n) ≡ pos (unsigned_abs (half_up (pos n)))) × (n ≤ 2 * unsigned_abs (half_up (pos n)))
half_holds n = (refl, omega (arith, ints, halved (pos (n + 1))))

join_low : (b f g q t : ℤ) → b ≤ℤ t → t ≡ f +ℤ g → g ≤ℤ q → b ≤ℤ (f +ℤ q)
join_low b f g q t p e h = omega (arith, ints)

join_high : (b f g q t : ℤ) → t ≤ℤ b → t ≡ f +ℤ g → q ≤ℤ g → (f +ℤ q) ≤ℤ b
join_high b f g q t p e h = omega (arith, ints)

no_end : (f g : ℤ) → g ≡ pos 0 → f ≡ f +ℤ g
no_end f g e = omega (arith, ints)

-- ---- what lies along the way between two ends measures no less than the lesser one and no more than the greater one

module _ (s : ℕ) (f t g d q : ℤ) (e : t ≡ f +ℤ g *ℤ d) (low : (pos s *ℤ int_min (pos 0) d) ≤ℤ q) (high : q ≤ℤ (pos s *ℤ int_max (pos 0) d)) where
  no_way : pos s *ℤ (g *ℤ pos 0) ≡ pos 0
  no_way = ap (λ z. pos s *ℤ z) (mul-zero g) ∙ mul-zero (pos s)

  whole_way : pos s *ℤ t ≡ pos s *ℤ f +ℤ pos s *ℤ (g *ℤ d)
  whole_way = ap (λ z. pos s *ℤ z) e ∙ mul-add (pos s) f (g *ℤ d)

  pub along_low : (b : ℤ) → b ≤ℤ f → b ≤ℤ t → (pos s *ℤ b) ≤ℤ (pos s *ℤ f +ℤ g *ℤ q)
  along_low b bf bt =
      min_holds (λ z. (pos s *ℤ z) ≤ℤ (g *ℤ q) → (pos s *ℤ b) ≤ℤ (pos s *ℤ f +ℤ g *ℤ q)) (g *ℤ int_min (pos 0) d) (g *ℤ int_max (pos 0) d)
      (min_holds (λ z. (pos s *ℤ (g *ℤ z)) ≤ℤ (g *ℤ q) → (pos s *ℤ b) ≤ℤ (pos s *ℤ f +ℤ g *ℤ q)) (pos 0) d from_f from_t)
      (max_holds (λ z. (pos s *ℤ (g *ℤ z)) ≤ℤ (g *ℤ q) → (pos s *ℤ b) ≤ℤ (pos s *ℤ f +ℤ g *ℤ q)) (pos 0) d from_f from_t)
      (product_low g (int_min (pos 0) d) (int_max (pos 0) d) q s low high)
    where
      from_f : (pos s *ℤ (g *ℤ pos 0)) ≤ℤ (g *ℤ q) → (pos s *ℤ b) ≤ℤ (pos s *ℤ f +ℤ g *ℤ q)
      from_f h = join_low (pos s *ℤ b) (pos s *ℤ f) (pos s *ℤ (g *ℤ pos 0)) (g *ℤ q) (pos s *ℤ f) (scaled_le s b f bf) (no_end (pos s *ℤ f) (pos s *ℤ (g *ℤ pos 0)) no_way) h

      from_t : (pos s *ℤ (g *ℤ d)) ≤ℤ (g *ℤ q) → (pos s *ℤ b) ≤ℤ (pos s *ℤ f +ℤ g *ℤ q)
      from_t h = join_low (pos s *ℤ b) (pos s *ℤ f) (pos s *ℤ (g *ℤ d)) (g *ℤ q) (pos s *ℤ t) (scaled_le s b t bt) whole_way h

  pub along_high : (b : ℤ) → f ≤ℤ b → t ≤ℤ b → (pos s *ℤ f +ℤ g *ℤ q) ≤ℤ (pos s *ℤ b)
  along_high b fb tb =
      max_holds (λ z. (g *ℤ q) ≤ℤ (pos s *ℤ z) → (pos s *ℤ f +ℤ g *ℤ q) ≤ℤ (pos s *ℤ b)) (g *ℤ int_min (pos 0) d) (g *ℤ int_max (pos 0) d)
      (min_holds (λ z. (g *ℤ q) ≤ℤ (pos s *ℤ (g *ℤ z)) → (pos s *ℤ f +ℤ g *ℤ q) ≤ℤ (pos s *ℤ b)) (pos 0) d to_f to_t)
      (max_holds (λ z. (g *ℤ q) ≤ℤ (pos s *ℤ (g *ℤ z)) → (pos s *ℤ f +ℤ g *ℤ q) ≤ℤ (pos s *ℤ b)) (pos 0) d to_f to_t)
      (product_high g (int_min (pos 0) d) (int_max (pos 0) d) q s low high)
    where
      to_f : (g *ℤ q) ≤ℤ (pos s *ℤ (g *ℤ pos 0)) → (pos s *ℤ f +ℤ g *ℤ q) ≤ℤ (pos s *ℤ b)
      to_f h = join_high (pos s *ℤ b) (pos s *ℤ f) (pos s *ℤ (g *ℤ pos 0)) (g *ℤ q) (pos s *ℤ f) (scaled_le s f b fb) (no_end (pos s *ℤ f) (pos s *ℤ (g *ℤ pos 0)) no_way) h

      to_t : (g *ℤ q) ≤ℤ (pos s *ℤ (g *ℤ d)) → (pos s *ℤ f +ℤ g *ℤ q) ≤ℤ (pos s *ℤ b)
      to_t h = join_high (pos s *ℤ b) (pos s *ℤ f) (pos s *ℤ (g *ℤ d)) (g *ℤ q) (pos s *ℤ t) (scaled_le s t b tb) whole_way h

-- ---- and what stands out besides

pub ends_low : (x a b c d : ℤ) → x ≡ a -ℤ b → a ≤ℤ c → neg_ℤ b ≤ℤ d → x ≤ℤ (c +ℤ d)
ends_low x a b c d e p q = omega (arith, ints)

pub ends_high : (x a b c d : ℤ) → x ≡ a +ℤ b → c ≤ℤ a → d ≤ℤ b → (c +ℤ d) ≤ℤ x
ends_high x a b c d e p q = omega (arith, ints)

pub halve : (j w u k : ℕ) → 2 * u ≤ k → k ≤ j * (2 * w) → u ≤ j * w
halve j w u k p q = omega (arith, p, q)

two_near : (x y : ℤ) (k : ℕ) → unsigned_abs x + unsigned_abs y ≤ k → (neg_ℤ (pos k) ≤ℤ (x +ℤ y)) × ((x +ℤ y) ≤ℤ pos k)
two_near x y k h = (omega (arith, ints), omega (arith, ints))

-- a, b and c are what a direction measures along the axis of a cylinder and square to it, in n-ths; qa, qb and qc the way from its first end to a point of it, in
-- s-ths; f and t what the direction measures at its ends, which lie in x and y
pub held : (n s d r w k l : ℕ) (a b c qa qb qc f t way : ℤ) (x y : Interval)
    → unsigned_abs a * unsigned_abs a + unsigned_abs b * unsigned_abs b + unsigned_abs c * unsigned_abs c ≡ n * n * k → n * l ≤ unsigned_abs a
    → 4 * (unsigned_abs qb * unsigned_abs qb + unsigned_abs qc * unsigned_abs qc) ≤ (s * d) * (s * d) → k ≤ l * l + r * r → d * r ≤ 2 * w
    → IsIn n f x → IsIn n t y → t ≡ f +ℤ a *ℤ way → (pos s *ℤ int_min (pos 0) way) ≤ℤ qa → qa ≤ℤ (pos s *ℤ int_max (pos 0) way)
    → IsIn (s * n) ((pos s *ℤ f +ℤ a *ℤ qa) +ℤ (b *ℤ qb +ℤ c *ℤ qc)) (hull x y (pos w))
held n s d r w k l a b c qa qb qc f t way x y whole surely round root half from to e low high =
    let out : 2 * (unsigned_abs b * unsigned_abs qb + unsigned_abs c * unsigned_abs qc) ≤ (s * n) * (d * r) =
    stands_out k (unsigned_abs a) (unsigned_abs b) (unsigned_abs c) (unsigned_abs qb) (unsigned_abs qc) n s d l r whole surely round root in
    let wide : (s * n) * (d * r) ≤ (s * n) * (2 * w) = mul-le-mul_left (s * n) half in
    let aside : unsigned_abs (b *ℤ qb) + unsigned_abs (c *ℤ qc) ≤ (s * n) * w = rw (unsigned_abs-mul b qb, unsigned_abs-mul c qc) (halve (s * n) w (unsigned_abs b * unsigned_abs qb + unsigned_abs c * unsigned_abs qc) ((s * n) * (d * r)) out wide) in
    let near = two_near (b *ℤ qb) (c *ℤ qc) ((s * n) * w) aside in
    let least = int_min x.low y.low in
    let most = int_max x.high y.high in
    record {
      low = ends_low (pos (s * n) *ℤ (least -ℤ pos w)) (pos s *ℤ (pos n *ℤ least)) (pos ((s * n) * w)) (pos s *ℤ f +ℤ a *ℤ qa) (b *ℤ qb +ℤ c *ℤ qc)
          (mul-sub (pos (s * n)) least (pos w) ∙ ap (λ z. z -ℤ pos ((s * n) * w)) (mul-assoc (pos s) (pos n) least))
          (along_low s f t a way qa e low high (pos n *ℤ least)
          (trans _ _ _ (scaled_le n least x.low (min_left x.low y.low)) from.low)
          (trans _ _ _ (scaled_le n least y.low (min_right x.low y.low)) to.low))
          near.0;
      high = ends_high (pos (s * n) *ℤ (most +ℤ pos w)) (pos s *ℤ (pos n *ℤ most)) (pos ((s * n) * w)) (pos s *ℤ f +ℤ a *ℤ qa) (b *ℤ qb +ℤ c *ℤ qc)
          (mul-add (pos (s * n)) most (pos w) ∙ ap (λ z. z +ℤ pos ((s * n) * w)) (mul-assoc (pos s) (pos n) most))
          (along_high s f t a way qa e low high (pos n *ℤ most)
          (trans _ _ _ from.high (scaled_le n x.high most (max_left x.high y.high)))
          (trans _ _ _ to.high (scaled_le n y.high most (max_right x.high y.high))))
          near.1;
    }
