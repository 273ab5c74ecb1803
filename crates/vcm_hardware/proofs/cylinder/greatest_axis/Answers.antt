use Rattle.std.proofs.Common.{rules, arith, FitsSigned, to_z-of_z}
use Rattle.std.proofs.lemmas.Int.{ints}
use mir.Syntax.{w128}
use Rattle.vcm_hardware.proofs.Axes.{first_axis, second_axis, third_axis}
use Rattle.vcm_hardware.proofs.cylinder.greatest_axis.Goals as goal

pub returns-then-is_greatest : goal.returns-then-is_greatest
returns-then-is_greatest c =
    let fx : FitsSigned w128 c.args.x = search rules in
    let fy : FitsSigned w128 c.args.y = search rules in
    let fz : FitsSigned w128 c.args.z = search rules in
    first_axis c.args.y c.args.z c.args.x c.is_greatest.result (simp to_z-of_z at c.is_greatest.ensures) c.if-is_greatest.true

pub returns-then-z-y : goal.returns-then-z-y
returns-then-z-y c =
    let fx : FitsSigned w128 c.args.x = search rules in
    let fy : FitsSigned w128 c.args.y = search rules in
    let fz : FitsSigned w128 c.args.z = search rules in
    second_axis c.args.y c.args.z c.args.x c.is_greatest.result (simp to_z-of_z at c.is_greatest.ensures) c.if-is_greatest.false (omega (arith, ints, c.if-z-y.true))

pub returns-else-z-y : goal.returns-else-z-y
returns-else-z-y c =
    let fx : FitsSigned w128 c.args.x = search rules in
    let fy : FitsSigned w128 c.args.y = search rules in
    let fz : FitsSigned w128 c.args.z = search rules in
    third_axis c.args.y c.args.z c.args.x c.is_greatest.result (simp to_z-of_z at c.is_greatest.ensures) c.if-is_greatest.false (omega (arith, ints, c.if-z-y.false))
