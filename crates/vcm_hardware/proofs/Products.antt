-- Products of whole numbers.
use Rattle.std.proofs.Common.{◌≡◌, ℕ, ℤ, pos, negsuc, ◌+◌, ◌*◌, ◌<◌, ◌≤◌, ◌+ℤ◌, ◌-ℤ◌, ◌*ℤ◌, ◌≤ℤ◌, Bool, true, false, neg_ℤ, arith, ap, sym, subst, ◌∙◌}
use Rattle.std.specs.Prelude.{int_lt, cond}
use Rattle.std.specs.Int.{int_min, int_max}
use Rattle.std.proofs.Math.Nat.{mul-le-mul_left}
use Rattle.std.proofs.Math.IntN.{*ℤ_comm}
use Rattle.std.proofs.lemmas.Int.{ints, clamps, by_lt_z}
use borrow.Author.Differences.{up, down}
use lib.Signed.{◌<ℤ◌}
use Rattle.vcm_num.proofs.Ring.{mul-add, mul-assoc}

-- ---- the ring of whole numbers

sub_is : (b c : ℤ) → up (b -ℤ c) + down b + up c ≡ down (b -ℤ c) + up b + down c
sub_is b c = omega (arith, ints)

pub mul-sub : (a b c : ℤ) → a *ℤ (b -ℤ c) ≡ a *ℤ b -ℤ a *ℤ c
mul-sub a b c = omega (arith, ints, ap (λ (n : ℕ). up a * n) (sub_is b c), ap (λ (n : ℕ). down a * n) (sub_is b c))

pub sub-mul : (a b c : ℤ) → (a -ℤ b) *ℤ c ≡ a *ℤ c -ℤ b *ℤ c
sub-mul a b c = *ℤ_comm (a -ℤ b) c ∙ mul-sub c a b ∙ ap (λ z. z -ℤ c *ℤ b) (*ℤ_comm c a) ∙ ap (λ z. a *ℤ c -ℤ z) (*ℤ_comm c b)

pub mul-zero : (a : ℤ) → a *ℤ pos 0 ≡ pos 0
mul-zero a = omega (arith, ints)

pub mul-neg : (a b : ℤ) → a *ℤ neg_ℤ b ≡ neg_ℤ (a *ℤ b)
mul-neg a b = omega (arith, ints, ap (λ (n : ℕ). up a * n) (neg_is b), ap (λ (n : ℕ). down a * n) (neg_is b))
  where
    neg_is : (b : ℤ) → up (neg_ℤ b) + up b ≡ down (neg_ℤ b) + down b
    neg_is b = omega (arith, ints)

-- factors change places
pub swap : (a b c : ℤ) → a *ℤ (b *ℤ c) ≡ b *ℤ (a *ℤ c)
swap a b c = sym (mul-assoc a b c) ∙ ap (λ z. z *ℤ c) (*ℤ_comm a b) ∙ mul-assoc b a c

-- ---- order

pub scaled_le : (m : ℕ) (x y : ℤ) → x ≤ℤ y → (pos m *ℤ x) ≤ℤ (pos m *ℤ y)
scaled_le m x y le = let h : up x + down y ≤ up y + down x = omega (arith, ints) in omega (arith, ints, mul-le-mul_left m h)

pub turned_le : (m : ℕ) (x y : ℤ) → x ≤ℤ y → (negsuc m *ℤ y) ≤ℤ (negsuc m *ℤ x)
turned_le m x y le = let h : up x + down y ≤ up y + down x = omega (arith, ints) in omega (arith, ints, mul-le-mul_left (m + 1) h)

pub trans : (a b c : ℤ) → a ≤ℤ b → b ≤ℤ c → a ≤ℤ c
trans a b c p q = omega (arith, ints)

pub unscaled_le : (m : ℕ) (x y : ℤ) → 0 < m → (pos m *ℤ x) ≤ℤ (pos m *ℤ y) → x ≤ℤ y
unscaled_le m x y some h = by_lt_z y x (λ lt. absurd (never lt)) (λ le. le)
  where
    never : y <ℤ x → ⊥
    never lt =
        let more = scaled_le m (y +ℤ pos 1) x (omega (arith, ints, lt)) in
        let one : pos m *ℤ (y +ℤ pos 1) ≡ pos m *ℤ y +ℤ pos m = mul-add (pos m) y (pos 1) ∙ ap (λ z. pos m *ℤ y +ℤ z) (by_one m) in
        apart (pos m *ℤ y) (pos m *ℤ x) (pos m *ℤ (y +ℤ pos 1)) m some h more one
      where
        by_one : (m : ℕ) → pos m *ℤ pos 1 ≡ pos m
        by_one m = omega (arith, ints)

        apart : (a b d : ℤ) (m : ℕ) → 0 < m → b ≤ℤ a → d ≤ℤ b → d ≡ a +ℤ pos m → ⊥
        apart a b d m some h more one = omega (arith, ints)

-- what holds of both holds of the lesser and of the greater
pub min_holds : (P : ℤ → Type 0) (a b : ℤ) → P a → P b → P (int_min a b)
min_holds P a b p q = by (int_lt b a)
  where
    by : (t : Bool) → P (cond t b a)
    by true = q
    by false = p

pub max_holds : (P : ℤ → Type 0) (a b : ℤ) → P a → P b → P (int_max a b)
max_holds P a b p q = by (int_lt b a)
  where
    by : (t : Bool) → P (cond t a b)
    by true = p
    by false = q

pub min_left : (a b : ℤ) → int_min a b ≤ℤ a
min_left a b = omega (arith, ints, clamps)

pub min_right : (a b : ℤ) → int_min a b ≤ℤ b
min_right a b = omega (arith, ints, clamps)

pub max_left : (a b : ℤ) → a ≤ℤ int_max a b
max_left a b = omega (arith, ints, clamps)

pub max_right : (a b : ℤ) → b ≤ℤ int_max a b
max_right a b = omega (arith, ints, clamps)

-- a product with what lies between two ends, which are counted s times
pub product_low : (l low high x : ℤ) (s : ℕ) → (pos s *ℤ low) ≤ℤ x → x ≤ℤ (pos s *ℤ high) → (pos s *ℤ int_min (l *ℤ low) (l *ℤ high)) ≤ℤ (l *ℤ x)
product_low (pos m) low high x s p q =
    trans _ _ _ (scaled_le s (int_min (pos m *ℤ low) (pos m *ℤ high)) (pos m *ℤ low) (min_left (pos m *ℤ low) (pos m *ℤ high)))
    (subst (λ (z : ℤ). z ≤ℤ (pos m *ℤ x)) (swap (pos m) (pos s) low) (scaled_le m (pos s *ℤ low) x p))
product_low (negsuc m) low high x s p q =
    trans _ _ _ (scaled_le s (int_min (negsuc m *ℤ low) (negsuc m *ℤ high)) (negsuc m *ℤ high) (min_right (negsuc m *ℤ low) (negsuc m *ℤ high)))
    (subst (λ (z : ℤ). z ≤ℤ (negsuc m *ℤ x)) (swap (negsuc m) (pos s) high) (turned_le m x (pos s *ℤ high) q))

pub product_high : (l low high x : ℤ) (s : ℕ) → (pos s *ℤ low) ≤ℤ x → x ≤ℤ (pos s *ℤ high) → (l *ℤ x) ≤ℤ (pos s *ℤ int_max (l *ℤ low) (l *ℤ high))
product_high (pos m) low high x s p q =
    trans _ _ _ (subst (λ (z : ℤ). (pos m *ℤ x) ≤ℤ z) (swap (pos m) (pos s) high) (scaled_le m x (pos s *ℤ high) q))
    (scaled_le s (pos m *ℤ high) (int_max (pos m *ℤ low) (pos m *ℤ high)) (max_right (pos m *ℤ low) (pos m *ℤ high)))
product_high (negsuc m) low high x s p q =
    trans _ _ _ (subst (λ (z : ℤ). (negsuc m *ℤ x) ≤ℤ z) (swap (negsuc m) (pos s) low) (turned_le m (pos s *ℤ low) x p))
    (scaled_le s (negsuc m *ℤ low) (int_max (negsuc m *ℤ low) (negsuc m *ℤ high)) (max_left (negsuc m *ℤ low) (negsuc m *ℤ high)))
