-- Triangles in small numbers.
use Rattle.std.specs.Prelude.{◌≡◌, ℤ, ◌≤ℤ◌, false}
use Rattle.vcm_mesh.specs.declared.triangle.Triangle.{Triangle}
use Rattle.vcm_boxing.specs.declared.range.Stretch.{Stretch}
use Rattle.vcm_boxing.specs.declared.facet.Facet.{Facet}

-- the same corners
pub record IsFacetOf (f : Facet) (t : Triangle) : Type 0 where
  pub a : f.a ≡ t.a.0
  pub b : f.b ≡ t.b.0
  pub c : f.c ≡ t.c.0

-- a closed stretch that holds three coordinates
pub record IsSpan (a b c : ℤ) (w : Stretch) : Type 0 where
  pub low_a : w.low ≤ℤ a
  pub low_b : w.low ≤ℤ b
  pub low_c : w.low ≤ℤ c
  pub high_a : a ≤ℤ w.high
  pub high_b : b ≤ℤ w.high
  pub high_c : c ≤ℤ w.high
  pub closed_low : w.open_low ≡ false
  pub closed_high : w.open_high ≡ false
