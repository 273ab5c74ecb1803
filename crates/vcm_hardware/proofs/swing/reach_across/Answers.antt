use Rattle.std.proofs.Common.{◌+ℤ◌, ◌-ℤ◌, rules, arith, FitsSigned, to_z-of_z}
use Rattle.std.proofs.lemmas.Int.{ints}
use mir.Syntax.{w128}
use Rattle.vcm_hardware.proofs.Reaches.{across_is}
use Rattle.vcm_hardware.proofs.Farther.{end_fits, across_small}
use Rattle.vcm_hardware.proofs.swing.reach_across.Goals as goal

pub returns-clause-value : goal.returns-clause-value
returns-clause-value c =
    let fr : FitsSigned w128 c.args.radius = search rules in
    let fx : FitsSigned w128 c.args.x = search rules in
    let fy : FitsSigned w128 c.args.y = search rules in
    let fz : FitsSigned w128 c.args.z = search rules in
    let ft : FitsSigned w128 c.args.top = search rules in
    let fb : FitsSigned w128 c.args.bottom = search rules in
    let fd : FitsSigned w128 c.diagonal.result = search rules in
    let fe : FitsSigned w128 c.diagonal-2.result = search rules in
    let fw : FitsSigned w128 c.diagonal-3.result = search rules in
    let g1 : FitsSigned w128 (c.diagonal.result +ℤ c.args.radius) = omega (arith, ints, c.diagonal.ensures.small, c.requires.radius, c.requires.y, c.requires.z) in
    let g2 : FitsSigned w128 (c.args.y +ℤ c.args.radius) = omega (arith, ints, c.requires.y, c.requires.radius) in
    let g3 : FitsSigned w128 (c.args.top +ℤ c.args.radius) = omega (arith, ints, c.requires.top, c.requires.radius) in
    let g4 : FitsSigned w128 (c.args.bottom -ℤ c.args.radius) = omega (arith, ints, c.requires.bottom, c.requires.radius) in
    let d = simp to_z-of_z at c.diagonal.ensures.value in
    let e = simp to_z-of_z at c.diagonal-2.ensures.value in
    let w = simp to_z-of_z at c.diagonal-3.ensures.value in
    simp to_z-of_z (across_is c.args.radius c.args.x c.args.y c.args.z c.args.top c.args.bottom c.diagonal.result c.diagonal-2.result c.diagonal-3.result d e w)

pub overflow_sub-result : goal.overflow_sub-result
overflow_sub-result c =
    let fr : FitsSigned w128 c.args.radius = search rules in
    let fb : FitsSigned w128 c.args.bottom = search rules in
    simp to_z-of_z (end_fits c.args.bottom c.args.radius c.requires.bottom c.requires.radius)

pub returns-clause-small : goal.returns-clause-small
returns-clause-small c =
    let fr : FitsSigned w128 c.args.radius = search rules in
    let fx : FitsSigned w128 c.args.x = search rules in
    let fy : FitsSigned w128 c.args.y = search rules in
    let fz : FitsSigned w128 c.args.z = search rules in
    let ft : FitsSigned w128 c.args.top = search rules in
    let fb : FitsSigned w128 c.args.bottom = search rules in
    let fd : FitsSigned w128 c.diagonal.result = search rules in
    let fe : FitsSigned w128 c.diagonal-2.result = search rules in
    let fw : FitsSigned w128 c.diagonal-3.result = search rules in
    let g1 : FitsSigned w128 (c.diagonal.result +ℤ c.args.radius) = omega (arith, ints, c.diagonal.ensures.small, c.requires.radius, c.requires.y, c.requires.z) in
    let g2 : FitsSigned w128 (c.args.y +ℤ c.args.radius) = omega (arith, ints, c.requires.y, c.requires.radius) in
    let g3 : FitsSigned w128 (c.args.top +ℤ c.args.radius) = omega (arith, ints, c.requires.top, c.requires.radius) in
    let g4 : FitsSigned w128 (c.args.bottom -ℤ c.args.radius) = omega (arith, ints, c.requires.bottom, c.requires.radius) in
    let d = simp to_z-of_z at c.diagonal.ensures.small in
    let e = simp to_z-of_z at c.diagonal-2.ensures.small in
    let w = simp to_z-of_z at c.diagonal-3.ensures.small in
    simp to_z-of_z (across_small c.args.radius c.args.x c.args.y c.args.z c.args.top c.args.bottom c.diagonal.result c.diagonal-2.result c.diagonal-3.result
    c.requires.radius c.requires.x c.requires.y c.requires.z c.requires.top c.requires.bottom d e w)
