-- Points of triangles, boxes, and directions that keep the two apart.
use Rattle.std.specs.Prelude.{◌≡◌, ℕ, ℤ, pos, ◌+◌, ◌<◌, ◌+ℤ◌, ◌*ℤ◌, ◌≤ℤ◌, Bool, true}
use Rattle.std.specs.Int.{int_max}
use lib.Signed.{◌<ℤ◌}

-- the corners of a triangle by their coordinates, in whole micrometres
pub record Corners : Type 0 where
  pub a : ℕ → ℤ
  pub b : ℕ → ℤ
  pub c : ℕ → ℤ

-- the place x, counted in s-ths of a micrometre, is a point of the triangle: a mean of its corners
pub record IsPoint (t : Corners) (s : ℕ) (x : ℕ → ℤ) : Type 0 where
  pub u : ℕ
  pub v : ℕ
  pub w : ℕ
  pub positive : 0 < s
  pub whole : u + v + w ≡ s
  pub on_axis : (k : ℕ) → k < 3 → x k ≡ pos u *ℤ t.a k +ℤ pos v *ℤ t.b k +ℤ pos w *ℤ t.c k

-- the place lies in the box between two corners, its faces included
pub record IsHeld (low high : ℕ → ℤ) (s : ℕ) (x : ℕ → ℤ) : Type 0 where
  pub from_low : (k : ℕ) → k < 3 → (pos s *ℤ low k) ≤ℤ x k
  pub to_high : (k : ℕ) → k < 3 → x k ≤ℤ (pos s *ℤ high k)

-- how far a place lies along a direction
abbrev pub along : (ℕ → ℤ) → (ℕ → ℤ) → ℤ
along n x = n 0 *ℤ x 0 +ℤ n 1 *ℤ x 1 +ℤ n 2 *ℤ x 2

-- on one axis the farther one of two ends
abbrev pub farther : ℤ → ℤ → ℤ → ℤ
farther n low high = int_max (n *ℤ low) (n *ℤ high)

-- how far the box reaches along it
abbrev pub reach : (ℕ → ℤ) → (ℕ → ℤ) → (ℕ → ℤ) → ℤ
reach n low high = int_max (n 0 *ℤ low 0) (n 0 *ℤ high 0) +ℤ int_max (n 1 *ℤ low 1) (n 1 *ℤ high 1) +ℤ int_max (n 2 *ℤ low 2) (n 2 *ℤ high 2)

-- the box lies before all three corners
pub record IsBefore (n low high : ℕ → ℤ) (t : Corners) : Type 0 where
  pub a : reach n low high <ℤ along n t.a
  pub b : reach n low high <ℤ along n t.b
  pub c : reach n low high <ℤ along n t.c

-- a direction along which the box lies before the corners keeps it apart from the triangle
abbrev pub DirectionsPart : Type 0
DirectionsPart = (n low high : ℕ → ℤ) (t : Corners) → IsBefore n low high t → (s : ℕ) (x : ℕ → ℤ) → IsPoint t s x → IsHeld low high s x → ⊥

-- Open boxes: at each end the place may be kept off the face

-- the same, but at an end that is open the place lies off the face
pub record IsInside (low high : ℕ → ℤ) (open_low open_high : ℕ → Bool) (s : ℕ) (x : ℕ → ℤ) : Type 0 where
  pub held : IsHeld low high s x
  pub off_low : (k : ℕ) → k < 3 → open_low k ≡ true → (pos s *ℤ low k) <ℤ x k
  pub off_high : (k : ℕ) → k < 3 → open_high k ≡ true → x k <ℤ (pos s *ℤ high k)

-- on this axis the direction isn't 0, and the end to which it points is open
pub record IsOpenAt (n low high : ℕ → ℤ) (open_low open_high : ℕ → Bool) (k : ℕ) : Type 0 where
  pub axis : k < 3
  pub up : pos 0 <ℤ n k → open_high k ≡ true
  pub down : n k <ℤ pos 0 → open_low k ≡ true
  pub some : (n k ≡ pos 0) → ⊥

-- the box lies before all three corners, or up to them
pub record IsUpTo (n low high : ℕ → ℤ) (t : Corners) : Type 0 where
  pub a : reach n low high ≤ℤ along n t.a
  pub b : reach n low high ≤ℤ along n t.b
  pub c : reach n low high ≤ℤ along n t.c

-- then what lies inside isn't a point of the triangle
abbrev pub OpenDirectionsPart : Type 0
OpenDirectionsPart = (n low high : ℕ → ℤ) (open_low open_high : ℕ → Bool) (t : Corners) (k : ℕ) → IsUpTo n low high t → IsOpenAt n low high open_low open_high k
    → (s : ℕ) (x : ℕ → ℤ) → IsPoint t s x → IsInside low high open_low open_high s x → ⊥
