-- Boxes with their sides moved out by up to 50 mm.
use Rattle.std.proofs.Common.{ℕ, ◌<◌, ◌≤◌, ℤ, pos, ◌+ℤ◌, ◌-ℤ◌, ◌≤ℤ◌, List, [], ◌∷◌, arith}
use Rattle.std.specs.Prelude.{map}
use Rattle.std.specs.List.{AllByRecursion}
use Rattle.std.proofs.lemmas.Int.{ints}
use Rattle.vcm_num.specs.Point.{coordinate, IsReachable}
use Rattle.vcm_spec.specs.declared.workpiece.Block3.{Block3}
use Rattle.vcm_spec.specs.Workpiece.{grown}
use Rattle.vcm_spec.proofs.Entries.{below_three}
use Rattle.vcm_carried.specs.Carried.{IsBox, AreSides}

-- on one axis
wider_side : (g : ℕ) (l u : ℤ) → g ≤ 50000 → AreSides 10000000 l u → AreSides 10050000 (l -ℤ pos g) (u +ℤ pos g)
wider_side g l u few h =
    let a = h.from_below in
    let b = h.order in
    let c = h.from_above in
    record { from_below = omega (arith, ints); order = omega (arith, ints); from_above = omega (arith, ints) }

pub grown_box : (g : ℕ) (box : Block3) → g ≤ 50000 → IsBox 10000000 box → IsBox 10050000 (grown g box)
grown_box g box few h =
    below_three (λ k. AreSides 10050000 (coordinate (grown g box).low k) (coordinate (grown g box).high k))
    (wider_side g _ _ few (h 0 (omega arith))) (wider_side g _ _ few (h 1 (omega arith))) (wider_side g _ _ few (h 2 (omega arith)))

pub grown_boxes : (g : ℕ) (body : List Block3) → g ≤ 50000 → AllByRecursion (IsBox 10000000) body → AllByRecursion (IsBox 10050000) (map (grown g) body)
grown_boxes g [] few h = tt
grown_boxes g (box ∷ boxes) few h = (grown_box g box few h.0, grown_boxes g boxes few h.1)

-- the corners of a box are near
pub low_corner : (box : Block3) → IsBox 10000000 box → IsReachable box.low
low_corner box h k l =
    let s = h k l in
    let a = s.from_below in
    let b = s.order in
    let c = s.from_above in
    record { from_below = omega (arith, ints); from_above = omega (arith, ints) }

pub high_corner : (box : Block3) → IsBox 10000000 box → IsReachable box.high
high_corner box h k l =
    let s = h k l in
    let a = s.from_below in
    let b = s.order in
    let c = s.from_above in
    record { from_below = omega (arith, ints); from_above = omega (arith, ints) }
