use Rattle.std.proofs.Common.{pos, ◌*ℤ◌, ◌+ℤ◌, rules, FitsSigned, to_z-of_z}
use mir.Syntax.{w128}
use Rattle.vcm_hardware.proofs.Hulls.{over_fits, both_fit, twice_fits, nearest_slope}
use Rattle.vcm_hardware.proofs.cylinder.nearest.Goals as goal

pub returns-clause-value : goal.returns-clause-value
returns-clause-value c =
    let fo : FitsSigned w128 c.args.over = search rules in
    let fu : FitsSigned w128 c.args.under = search rules in
    let f1 : FitsSigned w128 (pos 20000000 *ℤ c.args.over) = over_fits c.args.over c.requires.over in
    let f2 : FitsSigned w128 (pos 20000000 *ℤ c.args.over +ℤ c.args.under) = both_fit c.args.over c.args.under c.requires.over c.requires.under c.requires.few in
    let f3 : FitsSigned w128 (pos 2 *ℤ c.args.under) = twice_fits c.args.under c.requires.under c.requires.few in
    let fq : FitsSigned w128 c.quotient_down.result = search rules in
    let v = simp to_z-of_z at c.quotient_down.ensures.value in
    simp to_z-of_z v

pub returns-clause-slope : goal.returns-clause-slope
returns-clause-slope c =
    let fo : FitsSigned w128 c.args.over = search rules in
    let fu : FitsSigned w128 c.args.under = search rules in
    let f1 : FitsSigned w128 (pos 20000000 *ℤ c.args.over) = over_fits c.args.over c.requires.over in
    let f2 : FitsSigned w128 (pos 20000000 *ℤ c.args.over +ℤ c.args.under) = both_fit c.args.over c.args.under c.requires.over c.requires.under c.requires.few in
    let f3 : FitsSigned w128 (pos 2 *ℤ c.args.under) = twice_fits c.args.under c.requires.under c.requires.few in
    let fq : FitsSigned w128 c.quotient_down.result = search rules in
    let v = simp to_z-of_z at c.quotient_down.ensures.value in
    let small = nearest_slope c.args.over c.args.under c.quotient_down.result c.requires.over c.requires.under v in
    rw (to_z-of_z fq) small
