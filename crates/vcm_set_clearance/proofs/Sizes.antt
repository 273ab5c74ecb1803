-- Boxes of bodies, as boxes of this size.
use Rattle.std.proofs.Common.{◌≡◌, ℕ, ℤ, pos, negsuc, ◌-ℤ◌, true, List, [], ◌∷◌, arith}
use Rattle.std.specs.List.{list_all, AllByRecursion}
use Rattle.std.proofs.lemmas.Bool.{and_parts}
use Rattle.std.proofs.lemmas.Int.{ints}
use Rattle.vcm_num.specs.Point.{coordinate}
use Rattle.vcm_spec.specs.declared.workpiece.Block3.{Block3}
use Rattle.vcm_motion.proofs.Inside.{below_each}
use Rattle.vcm_carried.specs.Carried.{IsBox}
use Rattle.vcm_probe_set.specs.Bodies.{is_near_block}
use Rattle.vcm_set_clearance.proofs.Pivots.{corner}

box_of : (b : Block3) → is_near_block b ≡ true → IsBox 10000000 b
box_of b e k l =
    let h = and_parts _ _ e in
    let two = and_parts _ _ h.0 in
    let low = corner b.low two.0 k l in
    let high = corner b.high two.1 k l in
    let below = low.from_below in
    record { from_below = omega (arith, ints, below); order = below_each (coordinate b.low) (coordinate b.high) h.1 k l; from_above = high.from_above }

pub boxes_of : (bs : List Block3) → list_all is_near_block bs ≡ true → AllByRecursion (IsBox 10000000) bs
boxes_of [] e = tt
boxes_of (b ∷ bs) e = let h = and_parts _ _ e in (box_of b h.0, boxes_of bs h.1)
