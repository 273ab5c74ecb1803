-- The cosines of a head are at most 1, and where its axes point to.
use Rattle.std.proofs.Common.{◌≡◌, ℕ, ℤ, pos, zero, suc, ◌+◌, ◌≤◌, ◌-ℤ◌, ◌≤ℤ◌, ◌<ℤ◌, true, false, List, [], ◌∷◌, arith, ap, refl, sym, ◌∙◌}
use Rattle.std.specs.Prelude.{⊤, unsigned_abs, int_le, get_or}
use Rattle.std.specs.Int.{int_rem_euclid}
use Rattle.std.proofs.lemmas.Int.{ints}
use Rattle.vcm_hardware.specs.declared.interval.Ratio.{Ratio}
use Rattle.vcm_hardware.specs.declared.interval.Interval.{Interval}
use Rattle.vcm_hardware.specs.declared.angle.Turning.{Turning}
use Rattle.vcm_hardware.specs.inner.Sizes.{IsUnit}
use Rattle.vcm_hardware.specs.Intervals.{product, negative, scaled, sum_of}
use Rattle.vcm_hardware.specs.Turned.{cosines, from, just, quarter_cosine, cosine_within, cosine, sine, turning_by, row}

abbrev AreUnits : List Ratio → Type 0
AreUnits [] = ⊤
AreUnits (x ∷ xs) = IsUnit x × AreUnits xs

unit_at : (xs : List Ratio) (k : ℕ) (d : Ratio) → AreUnits xs → IsUnit d → IsUnit (get_or xs k d)
unit_at [] k d all last = last
unit_at (x ∷ xs) zero d all last = all.0
unit_at (x ∷ xs) (suc k) d all last = unit_at xs k d all.1 last

pub just_unit : (n : ℕ) → n ≤ 10000000 → IsUnit (just n)
just_unit n h = record { low = h; high = h }

from_unit : (n : ℕ) → n + 1 ≤ 10000000 → IsUnit (from n)
from_unit n h = record { low = omega (arith, h); high = omega (arith, h) }

cosines_are : AreUnits cosines
cosines_are = (
  just_unit 10000000 (omega arith),
  (
    from_unit 9914448 (omega arith),
    (
      from_unit 9659258 (omega arith),
      (
        from_unit 9238795 (omega arith),
        (
          from_unit 8660254 (omega arith),
          (
            from_unit 7933533 (omega arith),
            (
              from_unit 7071067 (omega arith),
              (
                from_unit 6087614 (omega arith),
                (
                  from_unit 5000000 (omega arith),
                  (
                    from_unit 3826834 (omega arith),
                    (
                      from_unit 2588190 (omega arith),
                      (
                        from_unit 1305261 (omega arith),
                        (just_unit 0 (omega arith), tt),
                      ),
                    ),
                  ),
                ),
              ),
            ),
          ),
        ),
      ),
    ),
  ),
)

pub quarter_unit : (k : ℕ) → IsUnit (quarter_cosine k)
quarter_unit k = unit_at cosines k (just 0) cosines_are (just_unit 0 (omega arith))

-- ---- a cosine from a quarter to half a turn

within_second : (r : ℤ) → pos 12 <ℤ r → r ≤ℤ pos 24 → cosine_within r ≡ negative (quarter_cosine (unsigned_abs (pos 24 -ℤ r)))
within_second r low high =
    let a : int_le r (pos 12) ≡ false = grind (arith, ints) in
    let b : int_le r (pos 24) ≡ true = grind (arith, ints) in
    rw (a, b) refl

pub second_quarter : (k r : ℤ) (q n : Ratio) → r ≡ int_rem_euclid k (pos 48) → pos 12 <ℤ r → r ≤ℤ pos 24 → q ≡ quarter_cosine (unsigned_abs (pos 24 -ℤ r))
    → n ≡ negative q → n ≡ cosine k
second_quarter k r q n er low high eq en = en ∙ ap negative eq ∙ sym (within_second r low high) ∙ ap cosine_within er

-- ---- where the axes point to

abbrev turning_from : Ratio → Ratio → Ratio → Ratio → Turning
turning_from ca sa cb sb = record {
  x = record { x = cb; y = sb; z = just 0 };
  y = record { x = negative (product sb ca); y = product cb ca; z = negative sa };
  z = record { x = negative (product sb sa); y = product cb sa; z = ca };
}

from_is : (ca sa cb sb p q r t n m k : Ratio) → p ≡ product sb ca → n ≡ negative p → q ≡ product cb ca → t ≡ negative sa → r ≡ product sb sa → m ≡ negative r
    → k ≡ product cb sa
    → record { x = record { x = cb; y = sb; z = just 0 }; y = record { x = n; y = q; z = t }; z = record { x = m; y = k; z = ca } } ≡ turning_from ca sa cb sb
from_is ca sa cb sb p q r t n m k ep en eq et er em ek = rw (en, ep, eq, et, em, er, ek) refl

pub turning_is : (a b : ℤ) (ca sa cb sb p q r t n m k : Ratio) → ca ≡ cosine a → sa ≡ sine a → cb ≡ cosine b → sb ≡ sine b → p ≡ product sb ca → n ≡ negative p
    → q ≡ product cb ca → t ≡ negative sa → r ≡ product sb sa → m ≡ negative r → k ≡ product cb sa
    → record { x = record { x = cb; y = sb; z = just 0 }; y = record { x = n; y = q; z = t }; z = record { x = m; y = k; z = ca } } ≡ turning_by a b
turning_is a b ca sa cb sb p q r t n m k ea es eb ef ep en eq et er em ek =
    from_is ca sa cb sb p q r t n m k ep en eq et er em ek ∙ ap (λ (v : Ratio). turning_from v sa cb sb) ea ∙ ap (λ (v : Ratio). turning_from (cosine a) v cb sb) es
    ∙ ap (λ (v : Ratio). turning_from (cosine a) (sine a) v sb) eb ∙ ap (λ (v : Ratio). turning_from (cosine a) (sine a) (cosine b) v) ef

pub row_is : (x y z : Ratio) (a b d : ℤ) (p q r s : Interval) → p ≡ scaled a x → q ≡ scaled b y → r ≡ scaled d z → s ≡ sum_of p q r → s ≡ row x y z a b d
row_is x y z a b d p q r s ep eq er es = rw (es, ep, eq, er) refl
