-- Stretches of a way, the block that is entered first, and the area that a carried box sweeps.
use Rattle.std.specs.Prelude.{◌≡◌, ◌⊎◌, ◌↔◌, ℕ, ℤ, pos, negsuc, ◌*◌, ◌<◌, ◌≤◌, ◌-ℤ◌, ◌≤ℤ◌, List, Option, Some, None}
use Rattle.std.specs.List.{AllByRecursion}
use Rattle.vcm_num.specs.declared.point.Point.{Point}
use Rattle.vcm_num.specs.Point.{coordinate}
use Rattle.vcm_spec.specs.declared.workpiece.Block3.{Block3}
use Rattle.vcm_spec.specs.Contact.{IsFraction}
use Rattle.vcm_motion.specs.inner.Boxes.{IsSpan}
use Rattle.vcm_carried.specs.declared.fraction.Fraction.{Fraction}
use Rattle.vcm_carried.specs.declared.fraction.Stretch.{Stretch}
use Rattle.vcm_carried.specs.declared.entered.Entered.{Entered}

-- how far two coordinates can lie apart, of which one is near 0 and the other is that of a spread block
pub record IsApart (z : ℤ) : Type 0 where
  pub from_below : negsuc 2010049999 ≤ℤ z
  pub from_above : z ≤ℤ pos 2010050000

-- the fraction f is not after a/b
abbrev pub IsUpTo : Fraction → ℕ → ℕ → Type 0
IsUpTo f a b = f.num * b ≤ a * f.den

-- the fraction f is not before a/b
abbrev pub IsFrom : Fraction → ℕ → ℕ → Type 0
IsFrom f a b = a * f.den ≤ f.num * b

-- the fraction a/b lies in the stretch, its ends included
pub record IsWithin (s : Stretch) (a b : ℕ) : Type 0 where
  pub after : IsUpTo s.enter a b
  pub before : IsFrom s.leave a b

-- P holds at the fractions of the stretch and at no others, or at none
abbrev pub IsStretchOf : Option Stretch → (ℕ → ℕ → Type 0) → Type 0
IsStretchOf (Some s) P = (a b : ℕ) → IsFraction a b → P a b ↔ IsWithin s a b
IsStretchOf None P = (a b : ℕ) → IsFraction a b → P a b → ⊥

-- u is what s and t have in common
abbrev pub IsCommon : Stretch → Stretch → Stretch → Type 0
IsCommon s t u = (a b : ℕ) → IsWithin u a b ↔ (IsWithin s a b × IsWithin t a b)

-- r is entered first, where next stands behind the first so far, if there is one
abbrev pub IsSooner : Option Entered → Entered → Entered → Type 0
IsSooner None next r = r ≡ next
IsSooner (Some first) next r =
    ((r ≡ first) × (first.at.num * next.at.den ≤ next.at.num * first.at.den)) ⊎ ((r ≡ next) × (next.at.num * first.at.den < first.at.num * next.at.den))

-- the area holds the box at both ends of the way from p to q
abbrev pub IsSwept : Block3 → Point → Point → Block3 → Type 0
IsSwept box p q area =
    (k : ℕ) → k < 3 → IsSpan (coordinate p k) (coordinate q k) (coordinate area.low k -ℤ coordinate box.low k) (coordinate area.high k -ℤ coordinate box.high k)

-- the box on each axis reaches at least as far as the other one
abbrev pub IsHeldBy : Block3 → Block3 → Type 0
IsHeldBy holder box =
    (k : ℕ) → k < 3 → (coordinate holder.low k ≤ℤ coordinate box.low k) × (coordinate box.high k ≤ℤ coordinate holder.high k)

-- the area holds each of these boxes at both ends of the way from p to q
abbrev pub AreSweptBy : List Block3 → Point → Point → Block3 → Type 0
AreSweptBy body p q area = AllByRecursion (λ box. IsSwept box p q area) body

-- r is the lesser of a fraction and another one, if there is one
abbrev pub IsLesser : Fraction → Option Fraction → Fraction → Type 0
IsLesser f None r = r ≡ f
IsLesser f (Some g) r = ((r ≡ f) × (f.num * g.den ≤ g.num * f.den)) ⊎ ((r ≡ g) × (g.num * f.den ≤ f.num * g.den))
