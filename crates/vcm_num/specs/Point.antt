-- Points and their coordinates, in whole micrometres.
use Rattle.std.specs.Prelude.{ℕ, ℤ, pos, negsuc, ◌<◌, ◌≤ℤ◌, Bool, ◌&&◌, int_le, slice_index_or, [], ◌∷◌}
use Rattle.vcm_num.specs.declared.point.Point.{Point}

-- the point with these coordinates
abbrev pub point : ℤ → ℤ → ℤ → Point
point x y z = record { 0 = x ∷ y ∷ z ∷ [] }

-- the coordinate of a point on an axis: 0 is x, 1 is y, 2 is z
abbrev pub coordinate : Point → ℕ → ℤ
coordinate p k = slice_index_or p.0 k (pos 0)

-- a fact of each of the three axes
abbrev pub on_each : (ℕ → Bool) → Bool
on_each test = test 0 && test 1 && test 2

-- whether no coordinate of the first place is above the second's
abbrev pub is_below : (ℕ → ℤ) → (ℕ → ℤ) → Bool
is_below p q = on_each (λ k. int_le (p k) (q k))

-- whether a coordinate is at most a kilometre from 0, either way
abbrev pub is_near_zero : ℤ → Bool
is_near_zero z = int_le (negsuc 999999999) z && int_le z (pos 1000000000)

-- whether each coordinate is at most a kilometre from 0, either way
abbrev pub is_near : Point → Bool
is_near p = on_each (λ k. is_near_zero (coordinate p k))

-- the coordinate is at most a kilometre from 0, either way
pub record IsNear (z : ℤ) : Type 0 where
  pub from_below : negsuc 999999999 ≤ℤ z
  pub from_above : z ≤ℤ pos 1000000000

-- each coordinate of a point is at most a kilometre from 0
abbrev pub IsReachable : Point → Type 0
IsReachable p = (k : ℕ) → k < 3 → IsNear (coordinate p k)
