-- Boxes of a probe file, as boxes of this size.
use Rattle.std.proofs.Common.{◌≡◌, ℕ, zero, suc, ◌<◌, ℤ, pos, negsuc, ◌-ℤ◌, ◌≤ℤ◌, true, List, [], ◌∷◌, slice_get, Some, None, subst, arith}
use Rattle.std.specs.List.{list_all}
use Rattle.std.proofs.lemmas.Bool.{and_parts}
use Rattle.std.proofs.lemmas.Int.{ints}
use Rattle.vcm_num.specs.declared.point.Point.{Point}
use Rattle.vcm_num.specs.Point.{coordinate}
use Rattle.vcm_spec.proofs.Entries.{le_true, below_three}
use Rattle.vcm_motion.proofs.Inside.{below_each}
use Rattle.vcm_carried.specs.Carried.{IsBox}
use Rattle.vcm_boxes.specs.declared.boxes.ProbeBox.{ProbeBox}
use Rattle.vcm_boxes.specs.Boxes.{is_by_tip, is_corner, is_box, AreBoxes}

record IsAtHand (z : ℤ) : Type 0 where
  from_below : (pos 0 -ℤ pos 10000000) ≤ℤ z
  from_above : z ≤ℤ pos 10000000

by_tip : (z : ℤ) → is_by_tip z ≡ true → IsAtHand z
by_tip z e =
    let h = and_parts _ _ e in
    let a = le_true (negsuc 9999999) z h.0 in
    record { from_below = omega (arith, ints, a); from_above = le_true z (pos 10000000) h.1 }

corner : (p : Point) → is_corner p ≡ true → (k : ℕ) → k < 3 → IsAtHand (coordinate p k)
corner p e =
    let h = and_parts _ _ e in
    let two = and_parts _ _ h.0 in below_three (λ k. IsAtHand (coordinate p k)) (by_tip _ two.0) (by_tip _ two.1) (by_tip _ h.1)

box_is : (b : ProbeBox) → is_box b ≡ true → IsBox 10000000 b.block
box_is b e k l =
    let h = and_parts _ _ e in
    let two = and_parts _ _ h.0 in
    let low = corner b.block.low two.0 k l in
    let high = corner b.block.high two.1 k l in
    record { from_below = low.from_below; order = below_each (coordinate b.block.low) (coordinate b.block.high) h.1 k l; from_above = high.from_above }

boxes_at : (bs : List ProbeBox) (i : ℕ) (b : ProbeBox) → list_all is_box bs ≡ true → slice_get bs i ≡ Some b → is_box b ≡ true
boxes_at [] i b all at = absurd (let no : None ≡ Some b = at in cc)
boxes_at (a ∷ bs) zero b all at = let same : a ≡ b = (let e : Some a ≡ Some b = at in cc) in subst (λ (x : ProbeBox). is_box x ≡ true) same (and_parts _ _ all).0
boxes_at (a ∷ bs) (suc i) b all at = let h = and_parts _ _ all in boxes_at bs i b h.1 at

pub box_at : (bs : List ProbeBox) → AreBoxes bs → (i : ℕ) (b : ProbeBox) → slice_get bs i ≡ Some b → IsBox 10000000 b.block
box_at bs h i b at = box_is b (boxes_at bs i b h.each at)
