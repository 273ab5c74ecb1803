use Rattle.std.proofs.Common.{◌-ℤ◌, rules, arith, FitsSigned, to_z-of_z}
use Rattle.std.proofs.lemmas.Int.{ints}
use mir.Syntax.{w128}
use Rattle.vcm_hardware.proofs.Floors.{less_is}
use Rattle.vcm_hardware.proofs.interval.less.Goals as goal

pub returns-clause-value : goal.returns-clause-value
returns-clause-value c =
    let small = c.across-by.ensures.small in
    let g1 : FitsSigned w128 c.args.x.low = search rules in
    let g2 : FitsSigned w128 c.args.x.high = search rules in
    let g3 : FitsSigned w128 c.across-by.result.low = search rules in
    let g4 : FitsSigned w128 c.across-by.result.high = search rules in
    let f1 : FitsSigned w128 (c.args.x.low -ℤ c.across-by.result.high) = omega (arith, ints, c.requires.x.low, small.high) in
    let f2 : FitsSigned w128 (c.args.x.high -ℤ c.across-by.result.low) = omega (arith, ints, c.requires.x.high, small.low) in
    let fs : FitsSigned w128 c.args.slope = search rules in
    let value = simp to_z-of_z at c.across-by.ensures.value in
    simp to_z-of_z (less_is c.args.slope c.args.x c.args.other c.across-by.result value)

pub returns-clause-close : goal.returns-clause-close
returns-clause-close c = λ h other.
    let by = c.across-by.ensures.close other in
    let g1 : FitsSigned w128 c.args.x.low = search rules in
    let g2 : FitsSigned w128 c.args.x.high = search rules in
    let g3 : FitsSigned w128 c.across-by.result.low = search rules in
    let g4 : FitsSigned w128 c.across-by.result.high = search rules in
    let f1 : FitsSigned w128 (c.args.x.low -ℤ c.across-by.result.high) = omega (arith, ints, h.low, by.high) in
    let f2 : FitsSigned w128 (c.args.x.high -ℤ c.across-by.result.low) = omega (arith, ints, h.high, by.low) in
    record { low = omega (arith, ints, h.low, by.high); high = omega (arith, ints, h.high, by.low) }
