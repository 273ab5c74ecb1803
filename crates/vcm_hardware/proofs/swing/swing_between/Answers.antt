use Rattle.std.proofs.Common.{pos, ◌-ℤ◌, rules, arith, w64, FitsSigned, to_z-of_z}
use Rattle.std.proofs.lemmas.Int.{ints}
use mir.Syntax.{w128}
use Rattle.vcm_hardware.proofs.Reaches.{between_is}
use Rattle.vcm_hardware.proofs.swing.swing_between.Goals as goal

pub returns : goal.returns
returns c =
    let fr : FitsSigned w128 c.args.radius = search rules in
    let fz : FitsSigned w128 c.args.z = search rules in
    let fy : FitsSigned w128 c.args.y = search rules in
    let gz : FitsSigned w64 c.args.z = omega (arith, ints, c.requires.z) in
    let gy : FitsSigned w64 c.args.y = omega (arith, ints, c.requires.y) in
    let fh : FitsSigned w64 c.swing_half-half.result = search rules in
    let fn : FitsSigned w64 (pos 0 -ℤ c.swing_half-half.result) = omega (arith, ints, c.swing_half-half.ensures.small) in
    let h = simp to_z-of_z at c.swing_half-half.ensures.value in
    simp to_z-of_z (between_is c.args.radius c.args.z c.args.y c.swing_half-half.result h)
