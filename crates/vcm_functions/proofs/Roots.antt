-- The root by binary digits is the greatest number whose square is no greater than the given one.
use Rattle.std.proofs.Common.{◌≡◌, ℕ, zero, suc, ◌+◌, ◌*◌, ◌/◌, ◌≤◌, ◌<◌, nat_le, Bool, true, false, refl, arith}
use Rattle.std.proofs.lemmas.Nat.{mul-le}
use Rattle.vcm_functions.specs.Values.{root_step, root}

-- the greatest number whose square is no greater
record IsRoot (n r : ℕ) : Type 0 where
  low : r * r ≤ n
  high : n < (r + 1) * (r + 1)

-- numbers that have so many binary digits in their roots
abbrev most : ℕ → ℕ
most zero = 1
most (suc k) = 4 * most k

-- the square of twice a number, and of one more
twice : (q : ℕ) → (2 * q) * (2 * q) ≡ 4 * (q * q)
twice q = omega arith

next : (q : ℕ) → (2 * q + 1 + 1) * (2 * q + 1 + 1) ≡ 4 * ((q + 1) * (q + 1))
next q = omega arith

-- one more digit
step : (n q : ℕ) → IsRoot (n / 4) q → (t : Bool) → nat_le ((2 * q + 1) * (2 * q + 1)) n ≡ t → IsRoot n (root_step n (2 * q))
step n q h true e = rw e record {
  low = grind (arith, e);
  high = omega (arith, h.high, next q);
}
step n q h false e = rw e record {
  low = omega (arith, h.low, twice q);
  high = grind (arith, e);
}

is_root : (k n : ℕ) → n < most k → IsRoot n (root k n)
unfolding root
is_root zero n h = record { low = omega arith; high = omega (arith, h) }
is_root (suc k) n h =
    step n (root k (n / 4)) (is_root k (n / 4) (omega (arith, h))) (nat_le ((2 * root k (n / 4) + 1) * (2 * root k (n / 4) + 1)) n) refl

-- a root isn't greater than another
no_greater : (n r s : ℕ) → r * r ≤ n → n < (s + 1) * (s + 1) → (t : Bool) → nat_le r s ≡ t → r ≤ s
no_greater n r s low high true e = grind (arith, e)
no_greater n r s low high false e = let f : s + 1 ≤ r = grind (arith, e) in omega (arith, low, high, mul-le (s + 1) (s + 1) r r f f)

-- so it is the only one
pub root_is : (n r : ℕ) → n < 4951760157141521099596496896 → r * r ≤ n → n < (r + 1) * (r + 1) → root 46 n ≡ r
root_is n r h low high =
    let i = is_root 46 n h in
    omega (arith, no_greater n (root 46 n) r i.low high (nat_le (root 46 n) r) refl, no_greater n r (root 46 n) low i.high (nat_le r (root 46 n)) refl)
