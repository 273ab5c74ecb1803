use Rattle.std.proofs.Common.{rules, FitsSigned, to_z-of_z}
use mir.Syntax.{w128}
use Rattle.vcm_hardware.proofs.Spans.{side_is}
use Rattle.vcm_hardware.proofs.cylinder.side_on.Goals as goal

pub returns-clause-value : goal.returns-clause-value
returns-clause-value c =
    let fo : FitsSigned w128 c.middle-own.result = search rules in
    let fp : FitsSigned w128 c.middle-other.result = search rules in
    let q = simp to_z-of_z at c.quotient.ensures.value in
    let p = simp to_z-of_z at c.quotient-2.ensures.value in
    side_is c.args.seen.now c.args.main c.args.axis c.towards.result c.towards-2.result c.middle-own.result c.middle-other.result c.range_on.result c.outward.result
    c.quotient.result c.quotient-2.result c.planes.result c.planes_back.result c.towards.ensures c.towards-2.ensures c.middle-own.ensures.value
    c.middle-other.ensures.value c.range_on.ensures.value c.outward.ensures.value q c.planes.ensures.value p c.planes_back.ensures.value
