-- The axis along which a direction runs farthest.
use Rattle.std.proofs.Common.{◌≡◌, ℤ, ◌≤ℤ◌, ◌<ℤ◌, Bool, true, false, ◌&&◌, arith, refl, sym, ◌∙◌}
use Rattle.std.specs.Prelude.{int_le, if◌then◌else◌}
use Rattle.std.proofs.lemmas.Int.{ints}
use Rattle.vcm_hardware.specs.declared.angle.Along.{Along}
use Rattle.vcm_hardware.specs.declared.angle.Along.TheVariants.{X, Y, Z}
use Rattle.vcm_hardware.specs.declared.angle.Direction.{Direction}
use Rattle.vcm_hardware.specs.Intervals.{middle, size}
use Rattle.vcm_hardware.specs.Slabs.{main_axis}

pub first_axis : (y z x : ℤ) (t : Bool) → t ≡ (int_le y x && int_le z x) → t ≡ true → X ≡ (if int_le y x && int_le z x then X else if int_le z y then Y else Z)
first_axis y z x t e h = rw (sym e ∙ h) refl

pub second_axis : (y z x : ℤ) (t : Bool) → t ≡ (int_le y x && int_le z x) → t ≡ false → z ≤ℤ y → Y ≡ (if int_le y x && int_le z x then X else if int_le z y then Y else Z)
second_axis y z x t e h le = let k : int_le z y ≡ true = grind (arith, ints) in rw (sym e ∙ h, k) refl

pub third_axis : (y z x : ℤ) (t : Bool) → t ≡ (int_le y x && int_le z x) → t ≡ false → y <ℤ z → Z ≡ (if int_le y x && int_le z x then X else if int_le z y then Y else Z)
third_axis y z x t e h lt = let k : int_le z y ≡ false = grind (arith, ints) in rw (sym e ∙ h, k) refl

pub axis_is : (d : Direction) (x y z : ℤ) (a : Along) → x ≡ size (middle d.x) → y ≡ size (middle d.y) → z ≡ size (middle d.z)
    → a ≡ (if int_le y x && int_le z x then X else if int_le z y then Y else Z) → a ≡ main_axis d
axis_is d x y z a ex ey ez ea = rw (ea, ex, ey, ez) refl
