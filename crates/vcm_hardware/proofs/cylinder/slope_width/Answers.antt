use Rattle.std.proofs.Common.{rules, arith, FitsSigned, to_z-of_z}
use mir.Syntax.{w32, w128}
use Rattle.vcm_hardware.proofs.Spans.{slope_width_is}
use Rattle.vcm_hardware.proofs.cylinder.slope_width.Goals as goal

pub least_size-requires : goal.least_size-requires
least_size-requires c =
    let close = c.less-along.ensures.close c.wide.ensures.small c.wide-2.ensures.small in
    record { low = omega (arith, close.low); high = omega (arith, close.high) }

pub slope_square-requires-clause-least : goal.slope_square-requires-clause-least
slope_square-requires-clause-least c =
    let fl : FitsSigned w128 c.least_size.result = search rules in
    rw (to_z-of_z fl) (c.least_size.ensures.small 4611686020574871767 (c.less-along.ensures.close c.wide.ensures.small c.wide-2.ensures.small))

pub returns-clause-value : goal.returns-clause-value
returns-clause-value c =
    let fs : FitsSigned w128 c.args.slope = search rules in
    let fd : FitsSigned w32 c.args.seen.now.diameter = search rules in
    let fl : FitsSigned w128 c.least_size.result = search rules in
    let fm : FitsSigned w128 c.slope_square.result = search rules in
    let fo : FitsSigned w128 c.half_width.result = search rules in
    let er = simp to_z-of_z at c.less-along.ensures.value in
    let em = simp to_z-of_z at c.slope_square.ensures in
    let eo = simp to_z-of_z at c.half_width.ensures.value in
    simp to_z-of_z (slope_width_is c.args.seen.now c.args.main c.args.axis c.args.slope c.towards.result c.towards-2.result c.wide.result c.wide-2.result c.less-along.result
    c.least_size.result c.slope_square.result c.half_width.result c.towards.ensures c.towards-2.ensures c.wide.ensures.value c.wide-2.ensures.value er c.least_size.ensures.value em eo)
