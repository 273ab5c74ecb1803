use Rattle.std.proofs.Common.{rules, arith, FitsSigned, to_z-of_z}
use Rattle.std.proofs.lemmas.Int.{ints}
use mir.Syntax.{w32, w128}
use Rattle.vcm_hardware.proofs.Spans.{within_more, range_on_is}
use Rattle.vcm_hardware.proofs.cylinder.range_on.Goals as goal

pub range_square-requires : goal.range_square-requires
range_square-requires c =
    let h = c.least_size-least.ensures.small 2147483648 c.wide.ensures.small in
    omega (arith, ints, h)

pub hull-requires-clause-p : goal.hull-requires-clause-p
hull-requires-clause-p c = within_more 27670116110564327424 80000000000000000000000000000 c.coordinate_on.result (omega arith) c.coordinate_on.ensures.far

pub hull-requires-clause-q : goal.hull-requires-clause-q
hull-requires-clause-q c = within_more 27670116110564327424 80000000000000000000000000000 c.coordinate_on-2.result (omega arith) c.coordinate_on-2.ensures.far

pub returns-clause-value : goal.returns-clause-value
returns-clause-value c =
    let s = c.args.seen.now in
    let fd : FitsSigned w32 c.args.seen.now.diameter = search rules in
    let fl : FitsSigned w128 c.least_size-least.result = search rules in
    let fk : FitsSigned w128 c.range_square.result = search rules in
    let fo : FitsSigned w128 c.half_width-out.result = search rules in
    let ek = simp to_z-of_z at c.range_square.ensures.value in
    let eo = simp to_z-of_z at c.half_width-out.ensures.value in
    let er = simp to_z-of_z at c.hull.ensures.value in
    range_on_is s c.args.axis c.towards.result c.wide.result c.coordinate_on.result c.coordinate_on-2.result c.hull.result c.least_size-least.result
    c.range_square.result c.half_width-out.result c.towards.ensures c.wide.ensures.value c.least_size-least.ensures.value ek eo c.coordinate_on.ensures.value c.coordinate_on-2.ensures.value er

pub returns-clause-small : goal.returns-clause-small
returns-clause-small c =
    let fo : FitsSigned w128 c.half_width-out.result = search rules in
    let fs : FitsSigned w128 c.range_square.result = search rules in
    let hull = simp to_z-of_z at c.hull.ensures.small in
    let least = simp to_z-of_z at c.half_width-out.ensures.least in
    hull 27670116110564327424 21474836480000000 c.coordinate_on.ensures.far c.coordinate_on-2.ensures.far (least c.range_square.ensures.small)
