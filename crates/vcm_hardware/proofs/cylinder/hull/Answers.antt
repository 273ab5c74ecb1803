use Rattle.std.proofs.Common.{◌+ℤ◌, ◌-ℤ◌, rules, FitsSigned, to_z-of_z}
use mir.Syntax.{w128}
use Rattle.vcm_hardware.proofs.Floors.{hull_within, low_fits, high_fits}
use Rattle.vcm_hardware.proofs.Hulls.{hull_is}
use Rattle.vcm_hardware.proofs.cylinder.hull.Goals as goal

pub overflow_add-result : goal.overflow_add-result
overflow_add-result c =
    let f3 : FitsSigned w128 c.args.p.high = search rules in
    let f4 : FitsSigned w128 c.args.q.high = search rules in
    let f5 : FitsSigned w128 c.args.out = search rules in
    let f7 : FitsSigned w128 c.max.result = search rules in
    let most = simp to_z-of_z at c.max.ensures.value in
    let f9 : FitsSigned w128 (c.max.result +ℤ c.args.out) = high_fits c.args.p c.args.q c.args.out c.max.result c.requires.p c.requires.q c.requires.out most in
    simp to_z-of_z f9

pub returns-clause-value : goal.returns-clause-value
returns-clause-value c =
    let f1 : FitsSigned w128 c.args.p.low = search rules in
    let f2 : FitsSigned w128 c.args.q.low = search rules in
    let f3 : FitsSigned w128 c.args.p.high = search rules in
    let f4 : FitsSigned w128 c.args.q.high = search rules in
    let f5 : FitsSigned w128 c.args.out = search rules in
    let f6 : FitsSigned w128 c.min.result = search rules in
    let f7 : FitsSigned w128 c.max.result = search rules in
    let least = simp to_z-of_z at c.min.ensures.value in
    let most = simp to_z-of_z at c.max.ensures.value in
    let f8 : FitsSigned w128 (c.min.result -ℤ c.args.out) = low_fits c.args.p c.args.q c.args.out c.min.result c.requires.p c.requires.q c.requires.out least in
    let f9 : FitsSigned w128 (c.max.result +ℤ c.args.out) = high_fits c.args.p c.args.q c.args.out c.max.result c.requires.p c.requires.q c.requires.out most in
    simp to_z-of_z (hull_is c.args.p c.args.q c.args.out c.min.result c.max.result least most)

pub returns-clause-small : goal.returns-clause-small
returns-clause-small c = λ n j p q out.
    let f1 : FitsSigned w128 c.args.p.low = search rules in
    let f2 : FitsSigned w128 c.args.q.low = search rules in
    let f3 : FitsSigned w128 c.args.p.high = search rules in
    let f4 : FitsSigned w128 c.args.q.high = search rules in
    let f5 : FitsSigned w128 c.args.out = search rules in
    let f6 : FitsSigned w128 c.min.result = search rules in
    let f7 : FitsSigned w128 c.max.result = search rules in
    let least = simp to_z-of_z at c.min.ensures.value in
    let most = simp to_z-of_z at c.max.ensures.value in
    let f8 : FitsSigned w128 (c.min.result -ℤ c.args.out) = low_fits c.args.p c.args.q c.args.out c.min.result c.requires.p c.requires.q c.requires.out least in
    let f9 : FitsSigned w128 (c.max.result +ℤ c.args.out) = high_fits c.args.p c.args.q c.args.out c.max.result c.requires.p c.requires.q c.requires.out most in
    simp to_z-of_z (hull_within c.args.p c.args.q c.args.out c.min.result c.max.result n j p q out least most)
