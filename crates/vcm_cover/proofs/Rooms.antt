-- A room between six walls.
use Rattle.std.proofs.Common.{ℕ, ℤ, pos, ◌<◌, ◌*ℤ◌, ◌≤ℤ◌, [], ◌∷◌, ◌⊎◌, inl, inr, arith, refl, zero, suc}
use Rattle.std.specs.List.{All}
use Rattle.std.proofs.lemmas.Int.{ints}
use Rattle.std.proofs.lemmas.List.Elements.{All-nil, All-cons}
use lib.Signed.{◌<ℤ◌}
use Rattle.vcm_num.specs.Point.{coordinate}
use Rattle.vcm_spec.specs.declared.workpiece.Block3.{Block3}
use Rattle.vcm_covering.specs.Covering.{IsCovered, LiesIn}
use Rattle.vcm_covering.proofs.Apart.{up_scaled}
use Rattle.vcm_cover.specs.Hollows.{LiesBelow, LiesAbove, IsPast, both_below, both_above, IsFreeWay, IsOutside, below_all, above_all, LeadsOut, is_out, onward}
use Rattle.vcm_cover.specs.Samples.{block, walls, RoomIsHollow}
use Rattle.vcm_boxing.proofs.Inside.{each_axis}
use Rattle.vcm_cover.proofs.Ways.{all_at}

-- the place lies in the room, off its walls
record IsInRoom (s : ℕ) (x : ℕ → ℤ) : Type 0 where
  above : (k : ℕ) → k < 3 → (pos s *ℤ pos 1) <ℤ x k
  below : (k : ℕ) → k < 3 → x k <ℤ (pos s *ℤ pos 9)

-- it lies below no block that begins before the room, and above none that ends behind it
not_below : (b : Block3) (k s : ℕ) (x : ℕ → ℤ) → coordinate b.low k ≤ℤ pos 1 → (pos s *ℤ pos 1) <ℤ x k → LiesBelow b k s x → ⊥
not_below b k s x le lt h = absurd (omega (arith, ints, up_scaled s (coordinate b.low k) (pos 1) le, lt, h))

not_above : (b : Block3) (k s : ℕ) (x : ℕ → ℤ) → pos 9 ≤ℤ coordinate b.high k → x k <ℤ (pos s *ℤ pos 9) → LiesAbove b k s x → ⊥
not_above b k s x le lt h = absurd (omega (arith, ints, up_scaled s (pos 9) (coordinate b.high k) le, lt, h))

past_0 : (s : ℕ) (x : ℕ → ℤ) (t : ℕ) (y : ℕ → ℤ) → IsInRoom s x → IsPast (block 0 0 0 1 10 10) s x t y → (pos t *ℤ pos 1) <ℤ y 0
past_0 s x t y i (both_below zero lt hx hy) = absurd (not_below (block 0 0 0 1 10 10) 0 s x (omega (arith, ints)) (i.above 0 lt) hx)
past_0 s x t y i (both_below (suc zero) lt hx hy) = absurd (not_below (block 0 0 0 1 10 10) 1 s x (omega (arith, ints)) (i.above 1 lt) hx)
past_0 s x t y i (both_below (suc (suc zero)) lt hx hy) = absurd (not_below (block 0 0 0 1 10 10) 2 s x (omega (arith, ints)) (i.above 2 lt) hx)
past_0 s x t y i (both_below (suc (suc (suc k))) lt hx hy) = absurd (omega arith)
past_0 s x t y i (both_above zero lt hx hy) = hy
past_0 s x t y i (both_above (suc zero) lt hx hy) = absurd (not_above (block 0 0 0 1 10 10) 1 s x (omega (arith, ints)) (i.below 1 lt) hx)
past_0 s x t y i (both_above (suc (suc zero)) lt hx hy) = absurd (not_above (block 0 0 0 1 10 10) 2 s x (omega (arith, ints)) (i.below 2 lt) hx)
past_0 s x t y i (both_above (suc (suc (suc k))) lt hx hy) = absurd (omega arith)

past_1 : (s : ℕ) (x : ℕ → ℤ) (t : ℕ) (y : ℕ → ℤ) → IsInRoom s x → IsPast (block 9 0 0 10 10 10) s x t y → y 0 <ℤ (pos t *ℤ pos 9)
past_1 s x t y i (both_below zero lt hx hy) = hy
past_1 s x t y i (both_below (suc zero) lt hx hy) = absurd (not_below (block 9 0 0 10 10 10) 1 s x (omega (arith, ints)) (i.above 1 lt) hx)
past_1 s x t y i (both_below (suc (suc zero)) lt hx hy) = absurd (not_below (block 9 0 0 10 10 10) 2 s x (omega (arith, ints)) (i.above 2 lt) hx)
past_1 s x t y i (both_below (suc (suc (suc k))) lt hx hy) = absurd (omega arith)
past_1 s x t y i (both_above zero lt hx hy) = absurd (not_above (block 9 0 0 10 10 10) 0 s x (omega (arith, ints)) (i.below 0 lt) hx)
past_1 s x t y i (both_above (suc zero) lt hx hy) = absurd (not_above (block 9 0 0 10 10 10) 1 s x (omega (arith, ints)) (i.below 1 lt) hx)
past_1 s x t y i (both_above (suc (suc zero)) lt hx hy) = absurd (not_above (block 9 0 0 10 10 10) 2 s x (omega (arith, ints)) (i.below 2 lt) hx)
past_1 s x t y i (both_above (suc (suc (suc k))) lt hx hy) = absurd (omega arith)

past_2 : (s : ℕ) (x : ℕ → ℤ) (t : ℕ) (y : ℕ → ℤ) → IsInRoom s x → IsPast (block 0 0 0 10 1 10) s x t y → (pos t *ℤ pos 1) <ℤ y 1
past_2 s x t y i (both_below zero lt hx hy) = absurd (not_below (block 0 0 0 10 1 10) 0 s x (omega (arith, ints)) (i.above 0 lt) hx)
past_2 s x t y i (both_below (suc zero) lt hx hy) = absurd (not_below (block 0 0 0 10 1 10) 1 s x (omega (arith, ints)) (i.above 1 lt) hx)
past_2 s x t y i (both_below (suc (suc zero)) lt hx hy) = absurd (not_below (block 0 0 0 10 1 10) 2 s x (omega (arith, ints)) (i.above 2 lt) hx)
past_2 s x t y i (both_below (suc (suc (suc k))) lt hx hy) = absurd (omega arith)
past_2 s x t y i (both_above zero lt hx hy) = absurd (not_above (block 0 0 0 10 1 10) 0 s x (omega (arith, ints)) (i.below 0 lt) hx)
past_2 s x t y i (both_above (suc zero) lt hx hy) = hy
past_2 s x t y i (both_above (suc (suc zero)) lt hx hy) = absurd (not_above (block 0 0 0 10 1 10) 2 s x (omega (arith, ints)) (i.below 2 lt) hx)
past_2 s x t y i (both_above (suc (suc (suc k))) lt hx hy) = absurd (omega arith)

past_3 : (s : ℕ) (x : ℕ → ℤ) (t : ℕ) (y : ℕ → ℤ) → IsInRoom s x → IsPast (block 0 9 0 10 10 10) s x t y → y 1 <ℤ (pos t *ℤ pos 9)
past_3 s x t y i (both_below zero lt hx hy) = absurd (not_below (block 0 9 0 10 10 10) 0 s x (omega (arith, ints)) (i.above 0 lt) hx)
past_3 s x t y i (both_below (suc zero) lt hx hy) = hy
past_3 s x t y i (both_below (suc (suc zero)) lt hx hy) = absurd (not_below (block 0 9 0 10 10 10) 2 s x (omega (arith, ints)) (i.above 2 lt) hx)
past_3 s x t y i (both_below (suc (suc (suc k))) lt hx hy) = absurd (omega arith)
past_3 s x t y i (both_above zero lt hx hy) = absurd (not_above (block 0 9 0 10 10 10) 0 s x (omega (arith, ints)) (i.below 0 lt) hx)
past_3 s x t y i (both_above (suc zero) lt hx hy) = absurd (not_above (block 0 9 0 10 10 10) 1 s x (omega (arith, ints)) (i.below 1 lt) hx)
past_3 s x t y i (both_above (suc (suc zero)) lt hx hy) = absurd (not_above (block 0 9 0 10 10 10) 2 s x (omega (arith, ints)) (i.below 2 lt) hx)
past_3 s x t y i (both_above (suc (suc (suc k))) lt hx hy) = absurd (omega arith)

past_4 : (s : ℕ) (x : ℕ → ℤ) (t : ℕ) (y : ℕ → ℤ) → IsInRoom s x → IsPast (block 0 0 0 10 10 1) s x t y → (pos t *ℤ pos 1) <ℤ y 2
past_4 s x t y i (both_below zero lt hx hy) = absurd (not_below (block 0 0 0 10 10 1) 0 s x (omega (arith, ints)) (i.above 0 lt) hx)
past_4 s x t y i (both_below (suc zero) lt hx hy) = absurd (not_below (block 0 0 0 10 10 1) 1 s x (omega (arith, ints)) (i.above 1 lt) hx)
past_4 s x t y i (both_below (suc (suc zero)) lt hx hy) = absurd (not_below (block 0 0 0 10 10 1) 2 s x (omega (arith, ints)) (i.above 2 lt) hx)
past_4 s x t y i (both_below (suc (suc (suc k))) lt hx hy) = absurd (omega arith)
past_4 s x t y i (both_above zero lt hx hy) = absurd (not_above (block 0 0 0 10 10 1) 0 s x (omega (arith, ints)) (i.below 0 lt) hx)
past_4 s x t y i (both_above (suc zero) lt hx hy) = absurd (not_above (block 0 0 0 10 10 1) 1 s x (omega (arith, ints)) (i.below 1 lt) hx)
past_4 s x t y i (both_above (suc (suc zero)) lt hx hy) = hy
past_4 s x t y i (both_above (suc (suc (suc k))) lt hx hy) = absurd (omega arith)

past_5 : (s : ℕ) (x : ℕ → ℤ) (t : ℕ) (y : ℕ → ℤ) → IsInRoom s x → IsPast (block 0 0 9 10 10 10) s x t y → y 2 <ℤ (pos t *ℤ pos 9)
past_5 s x t y i (both_below zero lt hx hy) = absurd (not_below (block 0 0 9 10 10 10) 0 s x (omega (arith, ints)) (i.above 0 lt) hx)
past_5 s x t y i (both_below (suc zero) lt hx hy) = absurd (not_below (block 0 0 9 10 10 10) 1 s x (omega (arith, ints)) (i.above 1 lt) hx)
past_5 s x t y i (both_below (suc (suc zero)) lt hx hy) = hy
past_5 s x t y i (both_below (suc (suc (suc k))) lt hx hy) = absurd (omega arith)
past_5 s x t y i (both_above zero lt hx hy) = absurd (not_above (block 0 0 9 10 10 10) 0 s x (omega (arith, ints)) (i.below 0 lt) hx)
past_5 s x t y i (both_above (suc zero) lt hx hy) = absurd (not_above (block 0 0 9 10 10 10) 1 s x (omega (arith, ints)) (i.below 1 lt) hx)
past_5 s x t y i (both_above (suc (suc zero)) lt hx hy) = absurd (not_above (block 0 0 9 10 10 10) 2 s x (omega (arith, ints)) (i.below 2 lt) hx)
past_5 s x t y i (both_above (suc (suc (suc k))) lt hx hy) = absurd (omega arith)

stays : (s : ℕ) (x : ℕ → ℤ) (t : ℕ) (y : ℕ → ℤ) → IsInRoom s x → IsFreeWay walls s x t y → IsInRoom t y
stays s x t y i way = record {
  above = each_axis (λ (k : ℕ). (pos t *ℤ pos 1) <ℤ y k) (past_0 s x t y i (way 0 _ refl)) (past_2 s x t y i (way 2 _ refl)) (past_4 s x t y i (way 4 _ refl));
  below = each_axis (λ (k : ℕ). y k <ℤ (pos t *ℤ pos 9)) (past_1 s x t y i (way 1 _ refl)) (past_3 s x t y i (way 3 _ refl)) (past_5 s x t y i (way 5 _ refl));
}

not_out : (s : ℕ) (x : ℕ → ℤ) → IsInRoom s x → IsOutside walls s x → ⊥
not_out s x i (below_all k lt all) =
    not_below (block 0 0 0 1 10 10) k s x (each_axis (λ (j : ℕ). coordinate (block 0 0 0 1 10 10).low j ≤ℤ pos 1) (omega (arith, ints)) (omega (arith, ints)) (omega (arith, ints)) k lt) (i.above k lt) (all 0 _ refl)
not_out s x i (above_all k lt all) =
    not_above (block 9 0 0 10 10 10) k s x (each_axis (λ (j : ℕ). pos 9 ≤ℤ coordinate (block 9 0 0 10 10 10).high j) (omega (arith, ints)) (omega (arith, ints)) (omega (arith, ints)) k lt) (i.below k lt) (all 1 _ refl)

-- so no way leads out
shut : (s : ℕ) (x : ℕ → ℤ) → LeadsOut walls s x → IsInRoom s x → ⊥
shut s x (is_out o) i = not_out s x i o
shut s x (onward {t = t} {y = y} some way rest) i = shut t y rest (stays s x t y i way)

-- and it lies in no wall
abbrev IsFreeOf : (s : ℕ) → (ℕ → ℤ) → Block3 → Type 0
IsFreeOf s x b = LiesIn b s x → ⊥

free_of_walls : (s : ℕ) (x : ℕ → ℤ) → IsInRoom s x → All (IsFreeOf s x) walls
free_of_walls s x i =
    All-cons (IsFreeOf s x) (block 0 0 0 1 10 10) (block 9 0 0 10 10 10 ∷ block 0 0 0 10 1 10 ∷ block 0 9 0 10 10 10 ∷ block 0 0 0 10 10 1 ∷ block 0 0 9 10 10 10 ∷ []) (λ h. absurd (omega (arith, ints, h.to_high 0 (omega arith), i.above 0 (omega arith)))) (
    All-cons (IsFreeOf s x) (block 9 0 0 10 10 10) (block 0 0 0 10 1 10 ∷ block 0 9 0 10 10 10 ∷ block 0 0 0 10 10 1 ∷ block 0 0 9 10 10 10 ∷ []) (λ h. absurd (omega (arith, ints, h.from_low 0 (omega arith), i.below 0 (omega arith)))) (
    All-cons (IsFreeOf s x) (block 0 0 0 10 1 10) (block 0 9 0 10 10 10 ∷ block 0 0 0 10 10 1 ∷ block 0 0 9 10 10 10 ∷ []) (λ h. absurd (omega (arith, ints, h.to_high 1 (omega arith), i.above 1 (omega arith)))) (
    All-cons (IsFreeOf s x) (block 0 9 0 10 10 10) (block 0 0 0 10 10 1 ∷ block 0 0 9 10 10 10 ∷ []) (λ h. absurd (omega (arith, ints, h.from_low 1 (omega arith), i.below 1 (omega arith)))) (
    All-cons (IsFreeOf s x) (block 0 0 0 10 10 1) (block 0 0 9 10 10 10 ∷ []) (λ h. absurd (omega (arith, ints, h.to_high 2 (omega arith), i.above 2 (omega arith)))) (
    All-cons (IsFreeOf s x) (block 0 0 9 10 10 10) ([]) (λ h. absurd (omega (arith, ints, h.from_low 2 (omega arith), i.below 2 (omega arith)))) (
    All-nil (IsFreeOf s x)))))))

open_place : (s : ℕ) (x : ℕ → ℤ) → IsInRoom s x → IsCovered walls s x ⊎ LeadsOut walls s x → ⊥
open_place s x i (inl c) = all_at (IsFreeOf s x) walls (free_of_walls s x i) c.index c.block c.stands c.inside
open_place s x i (inr l) = shut s x l i

pub hollow : RoomIsHollow
hollow law = open_place 1 (λ k. pos 5) (record { above = λ k lt. omega (arith, ints); below = λ k lt. omega (arith, ints) }) (law 1 (λ k. pos 5) (omega arith))
