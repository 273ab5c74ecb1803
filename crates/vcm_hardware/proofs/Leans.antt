-- A slope times a place, and what the planes of a slope leave.
use Rattle.std.proofs.Common.{◌≡◌, ℕ, ℤ, ◌≤◌, ◌+ℤ◌, ◌*ℤ◌, arith, refl, FitsSigned}
use Rattle.std.specs.Prelude.{unsigned_abs}
use Rattle.std.specs.Int.{int_min, int_max}
use Rattle.std.proofs.lemmas.Int.{ints, clamps, fits_signed_mul, fits_signed_from_abs}
use mir.Syntax.{w64, w128}
use Rattle.vcm_hardware.specs.declared.cylinder.Leaning.{Leaning}
use Rattle.vcm_hardware.specs.declared.cylinder.Range.{Range}
use Rattle.vcm_hardware.specs.Intervals.{floor_one, ceil_one}
use Rattle.vcm_hardware.specs.Slabs.{leans}
use Rattle.vcm_hardware.specs.inner.Sizes.{IsLeaning}
use Rattle.vcm_hardware.proofs.Floors.{times_small}

place_small : (z : ℤ) → FitsSigned w64 z → unsigned_abs z ≤ 9223372036854775808
place_small z f = omega (arith, ints, f)

pub lean_fits : (s z : ℤ) → unsigned_abs s ≤ 21474836480000001 → FitsSigned w64 z → FitsSigned w128 (s *ℤ z)
lean_fits s z p f = fits_signed_mul w128 s z 21474836480000001 9223372036854775808 p (place_small z f) (omega arith)

pub lean_small : (s z : ℤ) → unsigned_abs s ≤ 21474836480000001 → FitsSigned w64 z → unsigned_abs (s *ℤ z) ≤ 198070406285660853207231912694775808
lean_small s z p f = times_small s z 21474836480000001 9223372036854775808 p (place_small z f)

pub leans_is : (p : Leaning) (z : Range) (a b m k low high : ℤ) → a ≡ p.slope *ℤ z.low → b ≡ p.slope *ℤ z.high → m ≡ int_min a b → k ≡ int_max a b
    → low ≡ floor_one (p.low +ℤ m) → high ≡ ceil_one (p.high +ℤ k) → record { low = low; high = high } ≡ leans p z
leans_is p z a b m k low high ea eb em ek e f = rw (e, f, em, ek, ea, eb) refl

-- its planes fit, moved by the lesser or the greater of two such products
min_small : (a b : ℤ) (p : ℕ) → unsigned_abs a ≤ p → unsigned_abs b ≤ p → unsigned_abs (int_min a b) ≤ p
min_small a b p h k = omega (arith, ints, clamps)

max_small : (a b : ℤ) (p : ℕ) → unsigned_abs a ≤ p → unsigned_abs b ≤ p → unsigned_abs (int_max a b) ≤ p
max_small a b p h k = omega (arith, ints, clamps)

sum_small : (a b : ℤ) → unsigned_abs a ≤ 200000000000000000000000000000 → unsigned_abs b ≤ 198070406285660853207231912694775808
    → unsigned_abs (a +ℤ b) ≤ 198070606285660853207231912694775808
sum_small a b h k = omega (arith, ints)

low_small : (p : Leaning) (a b m : ℤ) → IsLeaning p → unsigned_abs a ≤ 198070406285660853207231912694775808
    → unsigned_abs b ≤ 198070406285660853207231912694775808 → m ≡ int_min a b → unsigned_abs (p.low +ℤ m) ≤ 198070606285660853207231912694775808
low_small p a b m is h k e = sum_small p.low m is.low (rw e (min_small a b 198070406285660853207231912694775808 h k))

pub high_small : (p : Leaning) (a b m : ℤ) → IsLeaning p → unsigned_abs a ≤ 198070406285660853207231912694775808
    → unsigned_abs b ≤ 198070406285660853207231912694775808 → m ≡ int_max a b → unsigned_abs (p.high +ℤ m) ≤ 198070606285660853207231912694775808
high_small p a b m is h k e = sum_small p.high m is.high (rw e (max_small a b 198070406285660853207231912694775808 h k))

pub low_fits : (p : Leaning) (a b m : ℤ) → IsLeaning p → unsigned_abs a ≤ 198070406285660853207231912694775808
    → unsigned_abs b ≤ 198070406285660853207231912694775808 → m ≡ int_min a b → FitsSigned w128 (p.low +ℤ m)
low_fits p a b m is h k e = fits_signed_from_abs w128 (p.low +ℤ m) (omega (arith, low_small p a b m is h k e))

pub high_fits : (p : Leaning) (a b m : ℤ) → IsLeaning p → unsigned_abs a ≤ 198070406285660853207231912694775808
    → unsigned_abs b ≤ 198070406285660853207231912694775808 → m ≡ int_max a b → FitsSigned w128 (p.high +ℤ m)
high_fits p a b m is h k e = fits_signed_from_abs w128 (p.high +ℤ m) (omega (arith, high_small p a b m is h k e))
