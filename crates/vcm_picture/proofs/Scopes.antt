-- What a view shows of a window.
use Rattle.std.proofs.Common.{◌≡◌, ℕ, ℤ, ◌+ℤ◌, refl}
use Rattle.std.specs.Int.{int_div_euclid}
use Rattle.vcm_num.specs.Point.{coordinate}
use Rattle.vcm_picture.specs.Sights.{Scope}
use Rattle.vcm_picture.specs.declared.view.View.{View}
use Rattle.vcm_picture.specs.Sights.{Window}
use Rattle.vcm_picture.specs.View.{right_axis, up_axis, scope_of}

-- read at these axes, with these widths
abbrev pub scope_at : Window → View → ℕ → ℕ → ℤ → ℤ → Scope
scope_at w v r u wide high = record {
  view = v;
  left = coordinate w.low r;
  top = coordinate w.low u +ℤ coordinate w.full u;
  grain = w.grain;
  unit = w.unit;
  wide = wide;
  high = high;
}

pub scope_same : (w : Window) (v : View) (r u : ℕ) (wide high : ℤ) → r ≡ right_axis v → u ≡ up_axis v
    → wide ≡ int_div_euclid (coordinate w.full r) w.grain → high ≡ int_div_euclid (coordinate w.full u) w.grain
    → scope_at w v r u wide high ≡ scope_of w v
scope_same w v r u wide high a b c d = rw (c, d, a, b) refl
