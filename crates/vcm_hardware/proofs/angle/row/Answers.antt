use Rattle.std.proofs.Common.{◌-ℤ◌, rules, FitsSigned, to_z-of_z}
use mir.Syntax.{w32}
use Rattle.vcm_hardware.proofs.Units.{row_is}
use Rattle.vcm_hardware.proofs.angle.row.Goals as goal

pub returns-clause-value : goal.returns-clause-value
returns-clause-value c =
    let f1 : FitsSigned w32 c.args.from.x = search rules in
    let f2 : FitsSigned w32 c.args.from.y = search rules in
    let f3 : FitsSigned w32 c.args.from.z = search rules in
    let f4 : FitsSigned w32 c.args.to.x = search rules in
    let f5 : FitsSigned w32 c.args.to.y = search rules in
    let f6 : FitsSigned w32 c.args.to.z = search rules in
    let x = simp to_z-of_z at c.scaled.ensures.value in
    let y = simp to_z-of_z at c.scaled-2.ensures.value in
    let z = simp to_z-of_z at c.scaled-3.ensures.value in
    row_is c.args.x c.args.y c.args.z (c.args.to.x -ℤ c.args.from.x) (c.args.to.y -ℤ c.args.from.y) (c.args.to.z -ℤ c.args.from.z) c.scaled.result c.scaled-2.result
    c.scaled-3.result c.sum_of.result x y z c.sum_of.ensures.value
