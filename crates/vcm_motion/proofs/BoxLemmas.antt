-- What the box of a move does not touch, the move does not meet.
use Rattle.std.proofs.Common.{◌≡◌, ℕ, ℤ, pos, negsuc, ◌<◌, ◌≤◌, ◌+ℤ◌, ◌-ℤ◌, ◌≤ℤ◌, Bool, true, false, ◌&&◌, arith, subst, sym, ◌∙◌}
use Rattle.std.proofs.Math.Nat.{mul-le-mul_right, le_of_mul-le-mul_left}
use Rattle.std.proofs.lemmas.Int.{ints, by_lt_z}
use Rattle.vcm_num.specs.declared.point.Point.{Point}
use Rattle.vcm_num.specs.Point.{coordinate, is_below}
use Rattle.vcm_spec.specs.declared.workpiece.Block3.{Block3}
use Rattle.vcm_spec.specs.Contact.{IsFraction, IsBetween, TipMeets}
use Rattle.vcm_motion.specs.inner.Stretches.{IsReached}
use Rattle.vcm_motion.specs.inner.Boxes.{IsSpan, IsBoxOf}
use Rattle.vcm_motion.proofs.Crossings.{rising, falling}
use Rattle.vcm_motion.proofs.Inside.{each_below}
use Rattle.vcm_spec.proofs.Tips.{shared_between}
use Rattle.std.proofs.lemmas.Bool.{and_from}
use Rattle.vcm_motion.specs.Strips.{nat_part}

-- what is reached within a move of length n lies before its end and not behind its start
reach_ends : (near far : ℤ) (n a b : ℕ) → IsFraction a b → IsReached near far (pos n) a b → (near ≤ℤ pos n) × (pos 0 ≤ℤ far)
reach_ends near far n a b f r = (before_end near far n a b f r, from_start near far n a b f r)
  where
    before_end : (near far : ℤ) (n a b : ℕ) → IsFraction a b → IsReached near far (pos n) a b → near ≤ℤ pos n
    before_end (pos m) far n a b f r =
        let le : m ≤ n = le_of_mul-le-mul_left {k = b} (omega (arith, ints, r.above, mul-le-mul_right n f.within)) f.positive in omega (arith, ints)
    before_end (negsuc m) far n a b f r = omega (arith, ints)

    from_start : (near far : ℤ) (n a b : ℕ) → IsFraction a b → IsReached near far (pos n) a b → pos 0 ≤ℤ far
    from_start near (pos m) n a b f r = omega (arith, ints)
    from_start near (negsuc m) n a b f r = let p = f.positive in absurd (omega (arith, ints, r.below))

nat_part_is : (z : ℤ) → pos 0 ≤ℤ z → z ≡ pos (nat_part z)
nat_part_is (pos n) h = omega (arith, ints)
nat_part_is (negsuc n) h = absurd (omega (arith, ints))

between_rising : (low high p q : ℤ) (a b : ℕ) → p ≤ℤ q → IsFraction a b → IsBetween low high p q a b → (low ≤ℤ q) × (p ≤ℤ high)
between_rising low high p q a b l f i =
    let run = nat_part_is (q -ℤ p) (omega (arith, ints)) in
    let r : IsReached (low -ℤ p) (high -ℤ p) (pos (nat_part (q -ℤ p))) a b = subst (λ z. IsReached (low -ℤ p) (high -ℤ p) z a b) run ((rising low high p q a b).0 i) in
    let e = reach_ends (low -ℤ p) (high -ℤ p) (nat_part (q -ℤ p)) a b f r in
    (omega (arith, ints), omega (arith, ints))

between_falling : (low high p q : ℤ) (a b : ℕ) → q ≤ℤ p → IsFraction a b → IsBetween low high p q a b → (low ≤ℤ p) × (q ≤ℤ high)
between_falling low high p q a b l f i =
    let run = nat_part_is (p -ℤ q) (omega (arith, ints)) in
    let r : IsReached (p -ℤ high) (p -ℤ low) (pos (nat_part (p -ℤ q))) a b = subst (λ z. IsReached (p -ℤ high) (p -ℤ low) z a b) run ((falling low high p q a b).0 i) in
    let e = reach_ends (p -ℤ high) (p -ℤ low) (nat_part (p -ℤ q)) a b f r in
    (omega (arith, ints), omega (arith, ints))

-- on one axis: where the moving point lies from low to high, what holds both ends is neither wholly below low nor wholly above high
pub span_met : (low high p q left right : ℤ) (a b : ℕ) → IsSpan p q left right → IsFraction a b → IsBetween low high p q a b → (low ≤ℤ right) × (left ≤ℤ high)
span_met low high p q left right a b span f i =
    let s1 = span.from_low in
    let s2 = span.from_high in
    let s3 = span.to_low in
    let s4 = span.to_high in
    by_lt_z q p
    (λ l. let e = between_falling low high p q a b (omega (arith, ints)) f i in (omega (arith, ints), omega (arith, ints)))
    (λ l. let e = between_rising low high p q a b (omega (arith, ints)) f i in (omega (arith, ints), omega (arith, ints)))

-- a block that the tip meets on the move is touched by its box
pub met_touches : (h : ℕ) (block area : Block3) (p q : Point) (a b : ℕ) → IsBoxOf h p q area → TipMeets h (coordinate p) (coordinate q) block a b →
    (is_below (coordinate block.low) (coordinate area.high) && is_below (coordinate area.low) (coordinate block.high)) ≡ true
met_touches h block area p q a b is m =
    let on : (k : ℕ) → k < 3 → ((coordinate block.low k -ℤ pos h) ≤ℤ (coordinate area.high k -ℤ pos h)) × ((coordinate area.low k +ℤ pos h) ≤ℤ (coordinate block.high k +ℤ pos h)) =
    λ k l. span_met _ _ _ _ _ _ a b (is k l) m.fraction (shared_between h _ _ _ _ a b (m.shared k) (m.on_axis k l)) in
    and_from _ _
    (each_below (coordinate block.low) (coordinate area.high) (λ k l. (let e = (on k l).0 in omega (arith, ints))))
    (each_below (coordinate area.low) (coordinate block.high) (λ k l. (let e = (on k l).1 in omega (arith, ints))))

-- one that it does not touch is not met
pub untouched : (h : ℕ) (block area : Block3) (p q : Point) (touching : Bool) → IsBoxOf h p q area
    → touching ≡ (is_below (coordinate block.low) (coordinate area.high) && is_below (coordinate area.low) (coordinate block.high)) → touching ≡ false
    → (a b : ℕ) → TipMeets h (coordinate p) (coordinate q) block a b → ⊥
untouched h block area p q touching is e none a b m =
    let both : true ≡ false = sym (met_touches h block area p q a b is m) ∙ sym e ∙ none in cc
