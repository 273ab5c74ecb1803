-- What a planner wants of blocks: what is free of them is free of the model.
use Rattle.std.specs.Prelude.{ℕ, ℤ, pos, ◌<◌, ◌+ℤ◌, ◌-ℤ◌, ◌*ℤ◌, ◌≤ℤ◌, List, None, Contains}
use Rattle.vcm_spec.specs.Workpiece.{Workpiece}
use Rattle.vcm_spec.specs.Contact.{IsFraction, IsContact}
use Rattle.vcm_covering.specs.Parting.{Corners, IsPoint}
use Rattle.vcm_covering.specs.Covering.{Covers}

-- on one axis the place c, counted in s-ths of a micrometre, is at most h from the point that is a/b of the way from p to q
pub record IsNearWay (h : ℕ) (p q : ℤ) (a b s : ℕ) (c : ℤ) : Type 0 where
  pub from_low : (pos s *ℤ (pos b *ℤ p +ℤ pos a *ℤ (q -ℤ p))) ≤ℤ (pos b *ℤ c +ℤ pos s *ℤ (pos b *ℤ pos h))
  pub to_high : (pos b *ℤ c) ≤ℤ (pos s *ℤ (pos b *ℤ p +ℤ pos a *ℤ (q -ℤ p)) +ℤ pos s *ℤ (pos b *ℤ pos h))

-- the place c, counted in s-ths of a micrometre, lies in the tip of half width h at the fraction a/b of the way from x to y
abbrev pub InTipAt : (h : ℕ) → (ℕ → ℤ) → (ℕ → ℤ) → (a b s : ℕ) → (ℕ → ℤ) → Type 0
InTipAt h x y a b s c = (k : ℕ) → k < 3 → IsNearWay h (x k) (y k) a b s (c k)

-- where the blocks of a workpiece cover triangles and a move meets no block, no point of a triangle lies in the tip, at any fraction of the move
abbrev pub Safe : Type 0
Safe = (part : Workpiece) (ts : List Corners) → Covers part.blocks ts → (x y : ℕ → ℤ) → IsContact part x y None
    → (t : Corners) → Contains ts t → (a b s : ℕ) (c : ℕ → ℤ) → IsFraction a b → IsPoint t s c → InTipAt part.bounds.tip x y a b s c → ⊥
