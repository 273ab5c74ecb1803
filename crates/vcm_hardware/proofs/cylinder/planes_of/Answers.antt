use Rattle.std.proofs.Common.{rules, arith, FitsSigned, to_z-of_z}
use mir.Syntax.{w128}
use Rattle.vcm_hardware.proofs.Spans.{planes_of_is}
use Rattle.vcm_hardware.proofs.cylinder.planes_of.Goals as goal

pub returns-clause-value : goal.returns-clause-value
returns-clause-value c =
    let fs : FitsSigned w128 c.args.slope = search rules in
    let fw : FitsSigned w128 c.slope_width.result = search rules in
    let fl : FitsSigned w128 c.hull-hull.result.low = search rules in
    let fh : FitsSigned w128 c.hull-hull.result.high = search rules in
    let er = simp to_z-of_z at c.less-from.ensures.value in
    let ev = simp to_z-of_z at c.less-to.ensures.value in
    let ew = simp to_z-of_z at c.slope_width.ensures.value in
    let eh = simp to_z-of_z at c.hull-hull.ensures.value in
    simp to_z-of_z (planes_of_is c.args.seen.now c.args.main c.args.axis c.args.slope c.coordinate_on.result c.coordinate_on-2.result c.less-from.result
    c.coordinate_on-3.result c.coordinate_on-4.result c.less-to.result c.hull-hull.result c.slope_width.result c.coordinate_on.ensures.value
    c.coordinate_on-2.ensures.value er c.coordinate_on-3.ensures.value c.coordinate_on-4.ensures.value ev ew eh)

pub returns-clause-small : goal.returns-clause-small
returns-clause-small c =
    let fw : FitsSigned w128 c.slope_width.result = search rules in
    let hull = simp to_z-of_z at c.hull-hull.ensures.small in
    let h = hull 70000000000000000000000000000 39614081257132168796771975168 c.less-from.ensures.small c.less-to.ensures.small c.slope_width.ensures.small in
    let fs : FitsSigned w128 c.args.slope = search rules in
    let fl : FitsSigned w128 c.hull-hull.result.low = search rules in
    let fh : FitsSigned w128 c.hull-hull.result.high = search rules in
    simp to_z-of_z (record { slope = c.requires.slope; low = omega (arith, h.low); high = omega (arith, h.high) })
