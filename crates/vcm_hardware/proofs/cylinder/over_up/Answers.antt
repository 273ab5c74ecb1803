use Rattle.std.proofs.Common.{pos, ◌-ℤ◌, rules, arith, FitsSigned, to_z-of_z}
use Rattle.std.proofs.lemmas.Int.{ints}
use mir.Syntax.{w128}
use Rattle.vcm_hardware.proofs.Signs.{over_up_is}
use Rattle.vcm_hardware.proofs.cylinder.over_up.Goals as goal

pub returns-clause-value : goal.returns-clause-value
returns-clause-value c =
    let fo : FitsSigned w128 c.args.over = search rules in
    let fu : FitsSigned w128 c.args.under = search rules in
    let fn : FitsSigned w128 (pos 0 -ℤ c.args.over) = omega (arith, ints, c.requires.over) in
    let fq : FitsSigned w128 c.quotient_down.result = search rules in
    let less = simp to_z-of_z at c.quotient_down.ensures.less in
    let fm : FitsSigned w128 (pos 0 -ℤ c.quotient_down.result) = omega (arith, ints, less, c.requires.over) in
    let fx : FitsSigned w128 c.max.result = search rules in
    let q = simp to_z-of_z at c.quotient_down.ensures.value in
    let m = simp to_z-of_z at c.max.ensures.value in
    simp to_z-of_z (over_up_is c.args.over c.args.under c.quotient_down.result c.max.result q m)
