-- What touches no block of a cover touches no triangle.
use Rattle.std.proofs.Common.{◌≡◌, ℕ, ℤ, pos, ◌*◌, ◌<◌, ◌-ℤ◌, ◌*ℤ◌, ◌≤ℤ◌, arith, ap}
use Rattle.std.proofs.lemmas.Int.{ints}
use Rattle.std.proofs.Math.Nat.{mul-le-mul_right, mul-le-mul_left}
use Rattle.vcm_spec.specs.declared.workpiece.Block3.{Block3}
use Rattle.vcm_spec.specs.Contact.{IsFraction, IsShared, TipMeets}
use Rattle.vcm_covering.specs.Covering.{LiesIn}
use Rattle.vcm_covering.specs.Safety.{IsNearWay, InTipAt, Safe}
use Rattle.vcm_covering.proofs.Apart.{up_scaled, spread, scale_is}

-- a product of two numbers times a third one
times : (s b : ℕ) (z : ℤ) → pos (b * s) *ℤ z ≡ pos s *ℤ (pos b *ℤ z)
times s b z = omega (arith, ints, scale_is (b * s) z, scale_is s (pos b *ℤ z), ap (λ (m : ℕ). s * m) (scale_is b z))

swapped_times : (s b : ℕ) (z : ℤ) → pos (b * s) *ℤ z ≡ pos b *ℤ (pos s *ℤ z)
swapped_times s b z = omega (arith, ints, scale_is (b * s) z, scale_is b (pos s *ℤ z), ap (λ (m : ℕ). b * m) (scale_is s z))

-- on one axis a place of a block and of the tip is shared by both, at the fraction with both of its numbers s times as large
shared : (h : ℕ) (low high p q : ℤ) (a b s : ℕ) (c : ℤ) → (pos s *ℤ low) ≤ℤ c → c ≤ℤ (pos s *ℤ high) → IsNearWay h p q a b s c →
    IsShared h low high p q (a * s) (b * s) (pos b *ℤ c)
shared h low high p q a b s c from to near =
    let way = spread (pos s) (pos b *ℤ p) (pos a *ℤ (q -ℤ p)) in
    let e = times s b p in
    let f = times s a (q -ℤ p) in
    let g = times s b (pos h) in
    let l = near.from_low in
    let m = near.to_high in
    record {
      above = omega (arith, ints, swapped_times s b low, up_scaled b (pos s *ℤ low) c from);
      below = omega (arith, ints, swapped_times s b high, up_scaled b c (pos s *ℤ high) to);
      from_low = omega (arith, ints, way, e, f, g, l);
      to_high = omega (arith, ints, way, e, f, g, m);
    }

fraction : (a b s : ℕ) → IsFraction a b → 0 < s → IsFraction (a * s) (b * s)
fraction a b s f some = let one = f.positive in record { positive = omega (arith, mul-le-mul_left b some); within = mul-le-mul_right s f.within }

meets : (h : ℕ) (block : Block3) (x y : ℕ → ℤ) (a b s : ℕ) (c : ℕ → ℤ) → IsFraction a b → 0 < s → LiesIn block s c → InTipAt h x y a b s c → TipMeets h x y block (a * s) (b * s)
meets h block x y a b s c f some inside tip = record {
  fraction = fraction a b s f some;
  shared = λ k. pos b *ℤ c k;
  on_axis = λ k lt. shared h _ _ (x k) (y k) a b s (c k) (inside.from_low k lt) (inside.to_high k lt) (tip k lt);
}

pub safe : Safe
safe part ts covers x y clear t there a b s c f point tip =
    let found = covers t there s c point in
    clear found.index found.block found.stands (a * s) (b * s) (meets part.bounds.tip found.block x y a b s c f point.positive found.inside tip)
