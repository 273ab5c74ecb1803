use Rattle.std.proofs.Common.{rules, w32, FitsSigned, to_z-of_z}
use mir.Syntax.{w128}
use Rattle.vcm_hardware.proofs.Reaches.{cylinder_is}
use Rattle.vcm_hardware.proofs.swing.cylinder_reach.Goals as goal

pub returns-clause-value : goal.returns-clause-value
returns-clause-value c =
    let p = c.args.part.now in
    let f1 : FitsSigned w32 c.args.part.now.from.x = search rules in
    let f2 : FitsSigned w32 c.args.part.now.from.y = search rules in
    let f3 : FitsSigned w32 c.args.part.now.from.z = search rules in
    let f4 : FitsSigned w32 c.args.part.now.to.x = search rules in
    let f5 : FitsSigned w32 c.args.part.now.to.y = search rules in
    let f6 : FitsSigned w32 c.args.part.now.to.z = search rules in
    let f7 : FitsSigned w32 c.args.part.now.diameter = search rules in
    let gr : FitsSigned w128 c.radius_of.result = search rules in
    let gx : FitsSigned w128 c.farther.result = search rules in
    let gy : FitsSigned w128 c.farther-2.result = search rules in
    let gz : FitsSigned w128 c.farther-3.result = search rules in
    let gt : FitsSigned w128 c.higher.result = search rules in
    let gb : FitsSigned w128 c.lower.result = search rules in
    let r = simp to_z-of_z at c.radius_of.ensures.value in
    let x = simp to_z-of_z at c.farther.ensures.value in
    let y = simp to_z-of_z at c.farther-2.ensures.value in
    let z = simp to_z-of_z at c.farther-3.ensures.value in
    let t = simp to_z-of_z at c.higher.ensures.value in
    let b = simp to_z-of_z at c.lower.ensures.value in
    let all = simp to_z-of_z at c.reach_along.ensures.value in
    cylinder_is p c.axis_between.result c.radius_of.result c.farther.result c.farther-2.result c.farther-3.result c.higher.result c.lower.result c.reach_along.result
    c.axis_between.ensures r x y z t b all
