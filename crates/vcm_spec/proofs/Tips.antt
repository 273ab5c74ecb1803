-- The tip meets a block where its centre lies in the grown one.
use Rattle.std.proofs.Common.{◌≡◌, ℕ, zero, suc, ◌<◌, ℤ, pos, ◌+ℤ◌, ◌-ℤ◌, ◌*ℤ◌, ◌≤ℤ◌, Bool, true, false, ◌&&◌, List, [], ◌∷◌, Some, None, slice_get, refl, ap, subst, arith}
use Rattle.std.specs.Prelude.{int_le, if◌then◌else◌}
use Rattle.std.specs.List.{list_all}
use Rattle.std.proofs.Math.IntN.{zero-*ℤ}
use Rattle.std.proofs.lemmas.Bool.{and_parts, and_from}
use Rattle.std.proofs.lemmas.Int.{ints}
use Rattle.vcm_num.proofs.Ring.{mul-add}
use Rattle.vcm_num.specs.declared.axis.Axis.{Axis}
use Rattle.vcm_num.specs.Axis.{along, unit, opposite}
use Rattle.vcm_num.specs.Point.{coordinate, is_below, on_each}
use Rattle.vcm_spec.specs.declared.workpiece.Block3.{Block3}
use Rattle.vcm_spec.specs.Workpiece.{Workpiece, IsValid, TipTouches, grown, is_met, is_block}
use Rattle.vcm_spec.specs.Contact.{IsBetween, Meets, MeetsLater, IsShared, TipMeets, TipMeetsLater}
use Rattle.vcm_spec.proofs.Entries.{le_true, true_le, below_three, mul_le}
use Rattle.vcm_spec.specs.Touch.{down_of}
use Rattle.vcm_spec.specs.Laws.{TipsMeetBlocks, TipsTouchBlocks, PointsMeetBlocks, PointsLieInBlocks, PointsTouchWhereTheyStand}

-- ---- blocks whose corners are in order

abbrev pub IsInOrder : Block3 → Type 0
IsInOrder block = (k : ℕ) → k < 3 → coordinate block.low k ≤ℤ coordinate block.high k

all_at : (test : Block3 → Bool) (bs : List Block3) (j : ℕ) (b : Block3) → list_all test bs ≡ true → slice_get bs j ≡ Some b → test b ≡ true
all_at test [] j b all at = absurd (let no : None ≡ Some b = at in cc)
all_at test (a ∷ bs) zero b all at = let same : a ≡ b = cc in subst (λ (x : Block3). test x ≡ true) same (and_parts _ _ all).0
all_at test (a ∷ bs) (suc j) b all at = let h = and_parts _ _ all in all_at test bs j b h.1 at

three : (test : ℕ → Bool) → on_each test ≡ true → (test 0 ≡ true) × (test 1 ≡ true) × (test 2 ≡ true)
three test h =
    let a = and_parts (test 0 && test 1) (test 2) h in
    let b = and_parts (test 0) (test 1) a.0 in
    (b.0, b.1, a.1)

each_of : (x y : ℕ → ℤ) → is_below x y ≡ true → (k : ℕ) → k < 3 → x k ≤ℤ y k
each_of x y e =
    let h = three (λ k. int_le (x k) (y k)) e in
    below_three (λ k. x k ≤ℤ y k) (le_true _ _ h.0) (le_true _ _ h.1) (le_true _ _ h.2)

below_of : (x y : ℕ → ℤ) → x 0 ≤ℤ y 0 → x 1 ≤ℤ y 1 → x 2 ≤ℤ y 2 → is_below x y ≡ true
below_of x y a b c = and_from _ _ (and_from _ _ (true_le _ _ a) (true_le _ _ b)) (true_le _ _ c)

pub block_in_order : (block : Block3) → is_block block ≡ true → IsInOrder block
block_in_order block e = let h = and_parts _ _ e in each_of (coordinate block.low) (coordinate block.high) h.1

pub in_order : (part : Workpiece) → IsValid part → (j : ℕ) (block : Block3) → slice_get part.blocks j ≡ Some block → IsInOrder block
in_order part valid j block stands = block_in_order block (all_at is_block part.blocks j block valid.each stands)

-- ---- moving tips

mul-less : (n h : ℕ) (z : ℤ) → pos n *ℤ (z -ℤ pos h) ≡ pos n *ℤ z -ℤ pos n *ℤ pos h
mul-less n h z =
    let back : (z -ℤ pos h) +ℤ pos h ≡ z = omega (arith, ints) in
    let e = mul-add (pos n) (z -ℤ pos h) (pos h) in
    let f = ap (λ (t : ℤ). pos n *ℤ t) back in
    omega (arith, ints, e, f)

pub shared_between : (h : ℕ) (low high p q : ℤ) (a b : ℕ) (c : ℤ) → IsShared h low high p q a b c → IsBetween (low -ℤ pos h) (high +ℤ pos h) p q a b
shared_between h low high p q a b c s =
    let l = mul-less b h low in
    let u = mul-add (pos b) high (pos h) in
    let s1 = s.above in
    let s2 = s.below in
    let s3 = s.from_low in
    let s4 = s.to_high in
    record { above = omega (arith, ints); below = omega (arith, ints) }

abbrev greater : ℤ → ℤ → ℤ
greater y z = if int_le y z then z else y

record IsGreater (y z m : ℤ) : Type 0 where
  first : y ≤ℤ m
  second : z ≤ℤ m
  under : (t : ℤ) → y ≤ℤ t → z ≤ℤ t → m ≤ℤ t

greater_is : (y z : ℤ) → IsGreater y z (greater y z)
greater_is y z = by (int_le y z) refl
  where
    by : (t : Bool) → int_le y z ≡ t → IsGreater y z (if t then z else y)
    by true e = record { first = le_true y z e; second = omega (arith, ints); under = λ t l m. m }
    by false e = record { first = omega (arith, ints); second = omega (arith, ints); under = λ t l m. l }

between_shared : (h : ℕ) (low high p q : ℤ) (a b : ℕ) → low ≤ℤ high → IsBetween (low -ℤ pos h) (high +ℤ pos h) p q a b
    → IsShared h low high p q a b (greater (pos b *ℤ low) (pos b *ℤ p +ℤ pos a *ℤ (q -ℤ p) -ℤ pos b *ℤ pos h))
between_shared h low high p q a b order i =
    let l = mul-less b h low in
    let u = mul-add (pos b) high (pos h) in
    let i1 = i.above in
    let i2 = i.below in
    let up = mul_le b low high order in
    let g = greater_is (pos b *ℤ low) (pos b *ℤ p +ℤ pos a *ℤ (q -ℤ p) -ℤ pos b *ℤ pos h) in
    record {
      above = g.first;
      below = g.under (pos b *ℤ high) up (omega (arith, ints));
      from_low = g.second;
      to_high = g.under (pos b *ℤ p +ℤ pos a *ℤ (q -ℤ p) +ℤ pos b *ℤ pos h) (omega (arith, ints)) (omega (arith, ints));
    }

module _ (h : ℕ) (x y : ℕ → ℤ) (block : Block3) where
  pub tip_meets : (a b : ℕ) → TipMeets h x y block a b → Meets x y (grown h block) a b
  tip_meets a b m = record {
    fraction = m.fraction;
    on_axis = below_three (λ k. IsBetween (coordinate (grown h block).low k) (coordinate (grown h block).high k) (x k) (y k) a b)
        (shared_between h _ _ _ _ a b (m.shared 0) (m.on_axis 0 (omega arith)))
        (shared_between h _ _ _ _ a b (m.shared 1) (m.on_axis 1 (omega arith)))
        (shared_between h _ _ _ _ a b (m.shared 2) (m.on_axis 2 (omega arith)));
  }

  abbrev shared_at : (a b k : ℕ) → ℤ
  shared_at a b k = greater (pos b *ℤ coordinate block.low k) (pos b *ℤ x k +ℤ pos a *ℤ (y k -ℤ x k) -ℤ pos b *ℤ pos h)

  pub meets_tip : IsInOrder block → (a b : ℕ) → Meets x y (grown h block) a b → TipMeets h x y block a b
  meets_tip order a b m = record {
    fraction = m.fraction;
    shared = shared_at a b;
    on_axis = below_three (λ k. IsShared h (coordinate block.low k) (coordinate block.high k) (x k) (y k) a b (shared_at a b k))
        (between_shared h _ _ _ _ a b (order 0 (omega arith)) (m.on_axis 0 (omega arith)))
        (between_shared h _ _ _ _ a b (order 1 (omega arith)) (m.on_axis 1 (omega arith)))
        (between_shared h _ _ _ _ a b (order 2 (omega arith)) (m.on_axis 2 (omega arith)));
  }

  pub tip_meets_later : (a b : ℕ) → TipMeetsLater h x y block a b → MeetsLater x y (grown h block) a b
  tip_meets_later a b m = record { meets = tip_meets a b m.meets; later = m.later }

  pub meets_tip_later : IsInOrder block → (a b : ℕ) → MeetsLater x y (grown h block) a b → TipMeetsLater h x y block a b
  meets_tip_later order a b m = record { meets = meets_tip order a b m.meets; later = m.later }

-- ---- tips at rest

pub touched_in : (h : ℕ) (block : Block3) (x : ℕ → ℤ) → TipTouches h block x → is_met h block x ≡ true
touched_in h block x t =
    let parts = and_parts _ _ t.in_block in
    let low = each_of (coordinate block.low) t.place parts.0 in
    let high = each_of t.place (coordinate block.high) parts.1 in
    let above : (k : ℕ) → k < 3 → (coordinate block.low k -ℤ pos h) ≤ℤ x k = λ k l. (let a = low k l in let b = t.in_tip.to_high k l in omega (arith, ints)) in
    let below : (k : ℕ) → k < 3 → x k ≤ℤ (coordinate block.high k +ℤ pos h) = λ k l. (let a = high k l in let b = t.in_tip.from_low k l in omega (arith, ints)) in
    and_from _ _ (below_of (coordinate (grown h block).low) x (above 0 (omega arith)) (above 1 (omega arith)) (above 2 (omega arith)))
    (below_of x (coordinate (grown h block).high) (below 0 (omega arith)) (below 1 (omega arith)) (below 2 (omega arith)))

pub met_touches : (h : ℕ) (block : Block3) (x : ℕ → ℤ) → IsInOrder block → is_met h block x ≡ true → TipTouches h block x
met_touches h block x order e =
    let parts = and_parts _ _ e in
    let low = each_of (coordinate (grown h block).low) x parts.0 in
    let high = each_of x (coordinate (grown h block).high) parts.1 in
    let above = below_three (λ k. (coordinate block.low k -ℤ pos h) ≤ℤ x k) (low 0 (omega arith)) (low 1 (omega arith)) (low 2 (omega arith)) in
    let below = below_three (λ k. x k ≤ℤ (coordinate block.high k +ℤ pos h)) (high 0 (omega arith)) (high 1 (omega arith)) (high 2 (omega arith)) in
    let place : ℕ → ℤ = λ k. greater (coordinate block.low k) (x k -ℤ pos h) in
    let up : (k : ℕ) → k < 3 → coordinate block.low k ≤ℤ place k = λ k l. (greater_is (coordinate block.low k) (x k -ℤ pos h)).first in
    let down : (k : ℕ) → k < 3 → place k ≤ℤ coordinate block.high k =
    λ k l. (greater_is (coordinate block.low k) (x k -ℤ pos h)).under (coordinate block.high k) (order k l) (let b = below k l in omega (arith, ints)) in
    record {
      place = place;
      in_block = and_from _ _ (below_of (coordinate block.low) place (up 0 (omega arith)) (up 1 (omega arith)) (up 2 (omega arith)))
          (below_of place (coordinate block.high) (down 0 (omega arith)) (down 1 (omega arith)) (down 2 (omega arith)));
      in_tip = record {
        from_low = λ k l. (greater_is (coordinate block.low k) (x k -ℤ pos h)).second;
        to_high = λ k l. (greater_is (coordinate block.low k) (x k -ℤ pos h)).under (x k +ℤ pos h) (let a = above k l in omega (arith, ints)) (omega (arith, ints));
      };
    }

-- ---- what the laws say

pub tips_meet : TipsMeetBlocks
tips_meet h block e x y a b = (tip_meets h x y block a b, meets_tip h x y block (block_in_order block e) a b)

pub tips_touch : TipsTouchBlocks
tips_touch h block e x = (touched_in h block x, met_touches h block x (block_in_order block e))

-- a tip of no width

point_between : (low high p q : ℤ) (a b : ℕ) (c : ℤ) → IsShared 0 low high p q a b c → IsBetween low high p q a b
point_between low high p q a b c s =
    let s1 = s.above in
    let s2 = s.below in
    let s3 = s.from_low in
    let s4 = s.to_high in
    record { above = omega (arith, ints); below = omega (arith, ints) }

between_point : (low high p q : ℤ) (a b : ℕ) → IsBetween low high p q a b → IsShared 0 low high p q a b (pos b *ℤ p +ℤ pos a *ℤ (q -ℤ p))
between_point low high p q a b i = record { above = i.above; below = i.below; from_low = omega (arith, ints); to_high = omega (arith, ints) }

pub points_meet : PointsMeetBlocks
points_meet block x y a b = (
  λ m. record { fraction = m.fraction; on_axis = λ k l. point_between _ _ _ _ a b (m.shared k) (m.on_axis k l) },
  λ m. record { fraction = m.fraction; shared = λ k. pos b *ℤ x k +ℤ pos a *ℤ (y k -ℤ x k); on_axis = λ k l. between_point _ _ _ _ a b (m.on_axis k l) },
)

no_less : (z : ℤ) → z -ℤ pos 0 ≡ z
no_less z = omega (arith, ints)

no_more : (z : ℤ) → z +ℤ pos 0 ≡ z
no_more z = omega (arith, ints)

pub points_lie : PointsLieInBlocks
points_lie block x =
    rw (
      no_less (coordinate block.low 0),
      no_less (coordinate block.low 1),
      no_less (coordinate block.low 2),
      no_more (coordinate block.high 0),
      no_more
          (coordinate block.high 1),
      no_more (coordinate block.high 2),
    ) refl

-- no way along a direction
along_none : (x : ℕ → ℤ) (d : Axis) (k h : ℕ) → h ≡ 0 → along x d h k ≡ x k
along_none x d k h none =
    let e = ap (λ (n : ℕ). pos n *ℤ unit d k) none in
    let f : pos 0 *ℤ unit d k ≡ pos 0 = zero-*ℤ (unit d k) in
    omega (arith, ints, e, f)

pub points_touch : PointsTouchWhereTheyStand
points_touch part none s nominal d t k =
    (along_none nominal d k part.bounds.tip none, along_none (down_of s nominal d t) (opposite d) k part.bounds.tip none)
