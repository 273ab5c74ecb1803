use Rattle.std.proofs.Common.{◌+ℤ◌, rules, arith, FitsSigned, to_z-of_z}
use Rattle.std.proofs.lemmas.Int.{ints}
use mir.Syntax.{w128}
use Rattle.vcm_hardware.proofs.Reaches.{up_is}
use Rattle.vcm_hardware.proofs.swing.reach_up.Goals as goal

pub returns-clause-value : goal.returns-clause-value
returns-clause-value c =
    let fr : FitsSigned w128 c.args.radius = search rules in
    let fx : FitsSigned w128 c.args.x = search rules in
    let fy : FitsSigned w128 c.args.y = search rules in
    let fz : FitsSigned w128 c.args.z = search rules in
    let ft : FitsSigned w128 c.args.top = search rules in
    let fb : FitsSigned w128 c.args.bottom = search rules in
    let fd : FitsSigned w128 c.diagonal.result = search rules in
    let fe : FitsSigned w128 c.diagonal-2.result = search rules in
    let g1 : FitsSigned w128 (c.diagonal.result +ℤ c.args.radius) = omega (arith, ints, c.diagonal.ensures.small, c.requires.radius, c.requires.x, c.requires.y) in
    let d = simp to_z-of_z at c.diagonal.ensures.value in
    let e = simp to_z-of_z at c.diagonal-2.ensures.value in
    simp to_z-of_z (up_is c.args.radius c.args.x c.args.y c.args.z c.args.top c.args.bottom c.diagonal.result c.diagonal-2.result d e)
