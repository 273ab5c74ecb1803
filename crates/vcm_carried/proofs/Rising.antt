-- Stretches of a rising and of a falling coordinate.
use Rattle.std.proofs.Common.{◌≡◌, ℕ, ℤ, ◌↔◌, ◌-ℤ◌, Option, Some, None}
use Rattle.vcm_spec.specs.Contact.{IsBetween}
use Rattle.vcm_motion.specs.inner.Stretches.{IsReached}
use Rattle.vcm_motion.proofs.Crossings.{rising, falling}
use Rattle.vcm_carried.specs.declared.fraction.Stretch.{Stretch}
use Rattle.vcm_carried.specs.inner.Shared.{IsStretchOf}

-- two properties that hold at the same fractions have the same stretch
same_stretch : (r : Option Stretch) (P Q : ℕ → ℕ → Type 0) → ((a b : ℕ) → P a b ↔ Q a b) → IsStretchOf r Q → IsStretchOf r P
same_stretch (Some s) P Q same h = λ a b f. (λ p. (h a b f).0 ((same a b).0 p), λ w. (same a b).1 ((h a b f).1 w))
same_stretch None P Q same h = λ a b f p. h a b f ((same a b).0 p)

-- a rising coordinate is seen from its start
pub stretch_rising : (r : Option Stretch) (low high p q near far run : ℤ) → near ≡ low -ℤ p → far ≡ high -ℤ p → run ≡ q -ℤ p →
    IsStretchOf r (IsReached near far run) → IsStretchOf r (IsBetween low high p q)
stretch_rising r low high p q near far run en ef er h = same_stretch r _ _ (λ a b. rising low high p q a b) (rw (← en, ← ef, ← er) h)

-- and a falling one is mirrored
pub stretch_falling : (r : Option Stretch) (low high p q near far run : ℤ) → near ≡ p -ℤ high → far ≡ p -ℤ low → run ≡ p -ℤ q →
    IsStretchOf r (IsReached near far run) → IsStretchOf r (IsBetween low high p q)
stretch_falling r low high p q near far run en ef er h = same_stretch r _ _ (λ a b. falling low high p q a b) (rw (← en, ← ef, ← er) h)
