-- What is seen of a rectangle in a view.
use Rattle.std.proofs.Common.{◌≡◌, ℤ, ◌+ℤ◌, ◌*ℤ◌, ◌≤ℤ◌, pos, negsuc, arith, refl}
use Rattle.std.proofs.lemmas.Int.{ints, clamps}
use Rattle.std.specs.Int.{int_max, int_min}
use Rattle.vcm_svg.specs.declared.rect.Rect.{Rect}
use Rattle.vcm_picture.specs.Sights.{Scope}
use Rattle.vcm_svg.specs.Ranges.{IsExtent, IsRect, IsSmall, IsUnit}
use Rattle.vcm_picture.specs.Way.{in_view}

-- a rectangle of these
abbrev pub sides : ℤ → ℤ → ℤ → ℤ → Rect
sides a b d e = record { left = a; top = b; right = d; bottom = e }

pub clip_same : (s : Scope) (r : Rect) (a b d e : ℤ) → a ≡ int_max r.left (negsuc 3 *ℤ s.unit) → b ≡ int_max r.top (negsuc 3 *ℤ s.unit)
    → d ≡ int_min r.right (s.wide +ℤ pos 4 *ℤ s.unit) → e ≡ int_min r.bottom (s.high +ℤ pos 4 *ℤ s.unit) → sides a b d e ≡ in_view s r
clip_same s r a b d e f g h i = rw (f, g, h, i) refl

max_small : (a b : ℤ) → IsSmall a → b ≤ℤ pos 1099511627776 → IsSmall (int_max a b)
max_small a b h k = record { from_below = omega (arith, ints, clamps); from_above = omega (arith, ints, clamps) }

min_small : (a b : ℤ) → IsSmall a → negsuc 1099511627775 ≤ℤ b → IsSmall (int_min a b)
min_small a b h k = record { from_below = omega (arith, ints, clamps); from_above = omega (arith, ints, clamps) }

pub clip_ranges : (s : Scope) (r : Rect) → IsUnit s.unit → IsExtent s.wide → IsExtent s.high → IsRect r → IsRect (in_view s r)
clip_ranges s r u w h i = record {
  left = max_small r.left (negsuc 3 *ℤ s.unit) i.left (omega (arith, ints, u.from_below));
  top = max_small r.top (negsuc 3 *ℤ s.unit) i.top (omega (arith, ints, u.from_below));
  right = min_small r.right (s.wide +ℤ pos 4 *ℤ s.unit) i.right (omega (arith, ints, u.from_below, w.from_below));
  bottom = min_small r.bottom (s.high +ℤ pos 4 *ℤ s.unit) i.bottom (omega (arith, ints, u.from_below, h.from_below));
}
