-- Ranges: boxes that may be open at their ends.
use Rattle.std.specs.Prelude.{◌≡◌, ℕ, ℤ, pos, ◌<◌, ◌*ℤ◌, ◌≤ℤ◌, Bool, true, false, List, slice_index_or, int_lt, ◌==◌, ◌&&◌, ◌||◌, if◌then◌else◌}
use lib.Signed.{◌<ℤ◌}
use Rattle.vcm_covering.specs.Parting.{Corners, IsPoint}
use Rattle.vcm_boxing.specs.declared.range.Stretch.{Stretch}
use Rattle.vcm_boxing.specs.declared.range.Range.{Range}
use Rattle.vcm_boxing.specs.declared.facet.Facet.{Facet}

-- the stretch of nothing
abbrev pub no_stretch : Stretch
no_stretch = record { low = pos 0; high = pos 0; open_low = false; open_high = false }

-- the stretch of a range on an axis
abbrev pub stretch : Range → ℕ → Stretch
stretch r k = slice_index_or r.0 k no_stretch

-- the coordinate z, counted in s-ths of a micrometre, lies in a stretch
pub record IsOn (w : Stretch) (s : ℕ) (z : ℤ) : Type 0 where
  pub from_low : (pos s *ℤ w.low) ≤ℤ z
  pub to_high : z ≤ℤ (pos s *ℤ w.high)
  pub off_low : w.open_low ≡ true → (pos s *ℤ w.low) <ℤ z
  pub off_high : w.open_high ≡ true → z <ℤ (pos s *ℤ w.high)

-- the place lies in a range
pub record IsIn (r : Range) (s : ℕ) (x : ℕ → ℤ) : Type 0 where
  pub on_axis : (k : ℕ) → k < 3 → IsOn (stretch r k) s (x k)

-- a range with another stretch on an axis
pub record IsWith (r : Range) (axis : ℕ) (w : Stretch) (all : Range) : Type 0 where
  pub same : (k : ℕ) → k < 3 → stretch all k ≡ (if k == axis then w else stretch r k)

-- the numbers of a list, by their places
abbrev pub numbers : List ℤ → ℕ → ℤ
numbers xs k = slice_index_or xs k (pos 0)

-- the corners of a facet
abbrev pub facet_corners : Facet → Corners
facet_corners f = record { a = numbers f.a; b = numbers f.b; c = numbers f.c }

-- the ends of a range, and which of them are open
abbrev pub lows : Range → ℕ → ℤ
lows r k = (stretch r k).low

abbrev pub highs : Range → ℕ → ℤ
highs r k = (stretch r k).high

abbrev pub open_lows : Range → ℕ → Bool
open_lows r k = (stretch r k).open_low

abbrev pub open_highs : Range → ℕ → Bool
open_highs r k = (stretch r k).open_high

-- whether the end of a stretch to which a number of a direction points is open
abbrev pub points_to_open_on : ℤ → Stretch → Bool
points_to_open_on n w = (int_lt (pos 0) n && w.open_high) || (int_lt n (pos 0) && w.open_low)

-- whether an end of a range to which a direction points is open
abbrev pub points_to_open : (ℕ → ℤ) → Range → Bool
points_to_open n r = points_to_open_on (n 0) (stretch r 0) || points_to_open_on (n 1) (stretch r 1) || points_to_open_on (n 2) (stretch r 2)

-- no point of a triangle lies in a range
pub record IsMissed (t : Corners) (r : Range) : Type 0 where
  pub none : (s : ℕ) (x : ℕ → ℤ) → IsPoint t s x → IsIn r s x → ⊥

-- no place lies in a range
pub record IsNowhere (r : Range) : Type 0 where
  pub empty : (s : ℕ) (x : ℕ → ℤ) → IsIn r s x → ⊥
