use Rattle.std.proofs.Common.{rules, w64, FitsSigned, to_z-of_z}
use mir.Syntax.{w128}
use Rattle.vcm_hardware.proofs.Probes.{pivot_is}
use Rattle.vcm_hardware.proofs.boxes.pivot.Goals as goal

pub returns : goal.returns
returns c =
    let f1 : FitsSigned w128 c.args.centre.now.x.low = search rules in
    let f2 : FitsSigned w128 c.args.centre.now.y.low = search rules in
    let f3 : FitsSigned w128 c.args.centre.now.z.low = search rules in
    let f4 : FitsSigned w128 c.args.centre.now.x.high = search rules in
    let f5 : FitsSigned w128 c.args.centre.now.y.high = search rules in
    let f6 : FitsSigned w128 c.args.centre.now.z.high = search rules in
    let g1 : FitsSigned w64 c.rounded.result = search rules in
    let g2 : FitsSigned w64 c.rounded-2.result = search rules in
    let g3 : FitsSigned w64 c.rounded-3.result = search rules in
    simp to_z-of_z (pivot_is c.args.centre.now c.rounded.result c.rounded-2.result c.rounded-3.result (simp to_z-of_z at c.rounded.ensures)
    (simp to_z-of_z at c.rounded-2.ensures) (simp to_z-of_z at c.rounded-3.ensures))
