-- Windows round spans.
use Rattle.std.proofs.Common.{◌≡◌, ℕ, zero, suc, ℤ, ◌<◌, arith, refl}
use Rattle.vcm_num.specs.declared.point.Point.{Point}
use Rattle.vcm_num.specs.Point.{point, coordinate}
use Rattle.vcm_picture.specs.Sights.{Span}
use Rattle.vcm_picture.specs.Sights.{Window}
use Rattle.vcm_picture.specs.Window.{most_of, low_of, full_of, longest, grain_of, unit_of, window_of}
use Rattle.vcm_picture.specs.Ranges.{IsEdge}
use Rattle.vcm_svg.specs.Ranges.{IsSize}

-- a window of these
abbrev pub window_at : Point → Point → ℤ → ℤ → Window
window_at low full g u = record { low = low; full = full; grain = g; unit = u }

pub window_same : (x y z : Span) (m p q r l g u a b d : ℤ) (low full : Point) → low ≡ point a b d → full ≡ point p q r → u ≡ unit_of p q r g
    → g ≡ grain_of l → l ≡ longest p q r → a ≡ low_of x m → b ≡ low_of y m → d ≡ low_of z m → p ≡ full_of x m → q ≡ full_of y m → r ≡ full_of z m
    → m ≡ most_of x y z → window_at low full g u ≡ window_of x y z
window_same x y z m p q r l g u a b d low full e1 e2 e3 e4 e5 e6 e7 e8 e9 e10 e11 e12 = rw (e1, e2, e3, e4, e5, e6, e7, e8, e9, e10, e11, e12) refl

pub edges : (a b d : ℤ) (p : Point) → p ≡ point a b d → IsEdge a → IsEdge b → IsEdge d → (k : ℕ) → k < 3 → IsEdge (coordinate p k)
edges a b d p e h i j zero l = rw e h
edges a b d p e h i j (suc zero) l = rw e i
edges a b d p e h i j (suc (suc zero)) l = rw e j
edges a b d p e h i j (suc (suc (suc k))) l = absurd (omega arith)

pub sizes : (a b d : ℤ) (p : Point) → p ≡ point a b d → IsSize a → IsSize b → IsSize d → (k : ℕ) → k < 3 → IsSize (coordinate p k)
sizes a b d p e h i j zero l = rw e h
sizes a b d p e h i j (suc zero) l = rw e i
sizes a b d p e h i j (suc (suc zero)) l = rw e j
sizes a b d p e h i j (suc (suc (suc k))) l = absurd (omega arith)
