use Rattle.std.proofs.Common.{pos, ◌-ℤ◌, rules, arith, w64, FitsSigned, to_z-of_z}
use Rattle.std.proofs.lemmas.Int.{ints, clamps}
use mir.Syntax.{w128}
use Rattle.vcm_hardware.proofs.Reaches.{half_is}
use Rattle.vcm_hardware.proofs.swing.swing_half.Goals as goal

pub leg-requires-clause-least : goal.leg-requires-clause-least
leg-requires-clause-least c =
    let fz : FitsSigned w128 c.args.z = search rules in
    let fy : FitsSigned w128 c.args.y = search rules in
    let fn : FitsSigned w128 (pos 0 -ℤ c.args.y) = omega (arith, ints, c.requires.y) in
    let fm : FitsSigned w128 c.max.result = search rules in
    let fl : FitsSigned w128 c.max-least.result = search rules in
    let m = simp to_z-of_z at c.max.ensures.value in
    let l = simp to_z-of_z at c.max-least.ensures.value in
    omega (arith, ints, clamps, m, l, c.requires.z, c.requires.y)

pub returns-clause-value : goal.returns-clause-value
returns-clause-value c =
    let fr : FitsSigned w128 c.args.radius = search rules in
    let fz : FitsSigned w128 c.args.z = search rules in
    let fy : FitsSigned w128 c.args.y = search rules in
    let fn : FitsSigned w128 (pos 0 -ℤ c.args.y) = omega (arith, ints, c.requires.y) in
    let fm : FitsSigned w128 c.max.result = search rules in
    let fl : FitsSigned w128 c.max-least.result = search rules in
    let fg : FitsSigned w128 c.leg.result = search rules in
    let fh : FitsSigned w64 c.leg.result = omega (arith, ints, c.leg.ensures.small) in
    let m = simp to_z-of_z at c.max.ensures.value in
    let l = simp to_z-of_z at c.max-least.ensures.value in
    let r = simp to_z-of_z at c.leg.ensures.value in
    simp to_z-of_z (half_is c.args.radius c.args.z c.args.y c.max.result c.max-least.result c.leg.result m l r)
