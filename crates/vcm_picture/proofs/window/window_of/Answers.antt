use Rattle.std.proofs.Common.{rules, arith, w64, FitsSigned, to_z-of_z}
use Rattle.std.proofs.lemmas.Int.{ints}
use Rattle.vcm_svg.specs.Ranges.{IsSize}
use Rattle.vcm_picture.proofs.Windows.{window_same, edges, sizes}
use Rattle.vcm_picture.proofs.window.window_of.Goals as goal

pub invariant_of-result : goal.invariant_of-result
invariant_of-result c =
    let fm : FitsSigned w64 c.most_of-most.result = search rules in
    let fp : FitsSigned w64 c.full_of-wide.result = search rules in
    let fq : FitsSigned w64 c.full_of-deep.result = search rules in
    let fr : FitsSigned w64 c.full_of-high.result = search rules in
    let fl : FitsSigned w64 c.longest.result = search rules in
    let fa : FitsSigned w64 c.low_of.result = search rules in
    let fb : FitsSigned w64 c.low_of-2.result = search rules in
    let fd : FitsSigned w64 c.low_of-3.result = search rules in
    let e1 = simp to_z-of_z at c.new.ensures in
    let e2 = simp to_z-of_z at c.new-2.ensures in
    let w : IsSize c.full_of-wide.result = record { from_below = c.full_of-wide.ensures.from_zero; from_above = omega (arith, ints) } in
    let d : IsSize c.full_of-deep.result = record { from_below = c.full_of-deep.ensures.from_zero; from_above = omega (arith, ints) } in
    let h : IsSize c.full_of-high.result = record { from_below = c.full_of-high.ensures.from_zero; from_above = omega (arith, ints) } in
    record {
      low = edges _ _ _ _ e1 c.low_of.ensures.edge c.low_of-2.ensures.edge c.low_of-3.ensures.edge;
      full = sizes _ _ _ _ e2 w d h;
      fine = c.grain_of-grain.ensures.fine;
      slim = c.unit_of.ensures.slim;
    }

pub returns : goal.returns
returns c =
    let fm : FitsSigned w64 c.most_of-most.result = search rules in
    let fp : FitsSigned w64 c.full_of-wide.result = search rules in
    let fq : FitsSigned w64 c.full_of-deep.result = search rules in
    let fr : FitsSigned w64 c.full_of-high.result = search rules in
    let fl : FitsSigned w64 c.longest.result = search rules in
    let fa : FitsSigned w64 c.low_of.result = search rules in
    let fb : FitsSigned w64 c.low_of-2.result = search rules in
    let fd : FitsSigned w64 c.low_of-3.result = search rules in
    let e1 = simp to_z-of_z at c.new.ensures in
    let e2 = simp to_z-of_z at c.new-2.ensures in
    let e3 = simp to_z-of_z at c.unit_of.ensures.value in
    let e4 = simp to_z-of_z at c.grain_of-grain.ensures.value in
    let e5 = simp to_z-of_z at c.longest.ensures.value in
    let e6 = simp to_z-of_z at c.low_of.ensures.value in
    let e7 = simp to_z-of_z at c.low_of-2.ensures.value in
    let e8 = simp to_z-of_z at c.low_of-3.ensures.value in
    let e9 = simp to_z-of_z at c.full_of-wide.ensures.value in
    let e10 = simp to_z-of_z at c.full_of-deep.ensures.value in
    let e11 = simp to_z-of_z at c.full_of-high.ensures.value in
    (window_same c.args.x c.args.y c.args.z _ _ _ _ _ _ _ _ _ _ _ _ e1 e2 e3 e4 e5 e6 e7 e8 e9 e10 e11 c.most_of-most.ensures.value)
