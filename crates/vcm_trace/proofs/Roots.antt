-- The root of a number, down.
use Rattle.std.proofs.Common.{◌≡◌, ℕ, zero, suc, ◌+◌, ◌*◌, ◌^◌, ◌<◌, ◌≤◌, Bool, true, false, refl, subst, arith}
use Rattle.std.specs.Prelude.{nat_le}
use Rattle.std.proofs.Math.Nat.{mul-le-mul_left, mul-le-mul_right}
use Rattle.vcm_trace.specs.Deviations.{with_bit, root_by, root_down}

square_le : (a b : ℕ) → a ≤ b → a * a ≤ b * b
square_le a b h = omega (arith, mul-le-mul_left a h, mul-le-mul_right b h)

-- r is the root of n, down
pub record IsRoot (n r : ℕ) : Type 0 where
  pub below : r * r ≤ n
  pub above : n < (r + 1) * (r + 1)

root_unique : (n r s : ℕ) → IsRoot n r → IsRoot n s → r ≡ s
root_unique n r s p q = omega (arith, not_less r s p.above q.below, not_less s r q.above p.below)
  where
    not_less : (a b : ℕ) → n < (a + 1) * (a + 1) → b * b ≤ n → b ≤ a
    not_less a b above below = by_le a b (λ h. omega (arith, above, below, square_le (a + 1) b h))
      where
        by_le : (x y : ℕ) → (x + 1 ≤ y → ⊥) → y ≤ x
        by_le x y never = omega (arith, never)

bit_keeps : (n r p : ℕ) → r * r ≤ n → n < (r + (p + p)) * (r + (p + p)) → (with_bit n r p * with_bit n r p ≤ n) × (n < (with_bit n r p + p) * (with_bit n r p + p))
bit_keeps n r p low high = by (nat_le ((r + p) * (r + p)) n) refl
  where
    by : (t : Bool) → nat_le ((r + p) * (r + p)) n ≡ t → (with_bit n r p * with_bit n r p ≤ n) × (n < (with_bit n r p + p) * (with_bit n r p + p))
    by true e =
        let sum : (r + p) + p ≡ r + (p + p) = omega arith in
        rw e (grind arith, rw sum high)
    by false e = rw e (low, grind arith)

twice : (b : ℕ) → 2 ^ suc b ≡ 2 ^ b + 2 ^ b
twice b = omega arith

root_by_is : (b r n : ℕ) → r * r ≤ n → n < (r + 2 ^ b) * (r + 2 ^ b) → IsRoot n (root_by b r n)
unfolding root_by
root_by_is zero r n low high = record { below = low; above = high }
root_by_is (suc b) r n low high =
    let kept = bit_keeps n r (2 ^ b) low (subst (λ (p : ℕ). n < (r + p) * (r + p)) (twice b) high) in
    root_by_is b (with_bit n r (2 ^ b)) n kept.0 kept.1

pub root_down_is : (n r : ℕ) → n < 2 ^ 128 → r * r ≤ n → n < (r + 1) * (r + 1) → r ≡ root_down n
unfolding root_down
root_down_is n r fits below above = root_unique n r (root_by 64 0 n) (record { below = below; above = above }) (root_by_is 64 0 n (omega arith) (grind arith))
