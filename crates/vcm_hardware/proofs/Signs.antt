-- The code's negative of a number.
use Rattle.std.proofs.Common.{◌≡◌, ℤ, pos, ◌-ℤ◌, neg_ℤ, Some, arith, ap, ◌∙◌}
use Rattle.std.specs.Prelude.{unsigned_abs}
use Rattle.std.specs.Int.{int_max, int_div_euclid}
use Rattle.std.proofs.lemmas.Int.{ints}
use Rattle.vcm_hardware.specs.declared.angle.Along.{Along}
use Rattle.vcm_hardware.specs.declared.cylinder.Seen.{Seen}
use Rattle.vcm_hardware.specs.declared.cylinder.Leaning.{Leaning}
use Rattle.vcm_hardware.specs.Slabs.{planes_of, planes_back, over_up}

pub negative_is : (z : ℤ) → pos 0 -ℤ z ≡ neg_ℤ z
negative_is z = omega (arith, ints)

pub over_up_is : (o u q m : ℤ) → q ≡ int_div_euclid (pos 0 -ℤ o) u → m ≡ int_max (pos 0 -ℤ q) (pos 1) → unsigned_abs m ≡ over_up o u
over_up_is o u q m eq em =
    ap unsigned_abs (em ∙ ap (λ (z : ℤ). int_max z (pos 1)) (negative_is q ∙ ap neg_ℤ (eq ∙ ap (λ (z : ℤ). int_div_euclid z u) (negative_is o))))

pub back_is : (s : Seen) (k i : Along) (p : Leaning) (z : ℤ) → p ≡ planes_of s k i (pos 0 -ℤ z) → Some p ≡ planes_back s k i (Some z)
back_is s k i p z e = ap (λ (l : Leaning). Some l) e ∙ ap (λ (x : ℤ). Some (planes_of s k i x)) (negative_is z)
