use Rattle.std.proofs.Common.{rules, w32, w64, FitsSigned, to_z-of_z}
use mir.Syntax.{w128}
use Rattle.vcm_hardware.proofs.Probes.{head_box_is}
use Rattle.vcm_hardware.proofs.boxes.head_box.Goals as goal

pub returns : goal.returns
returns c =
    let f1 : FitsSigned w128 c.args.centre.now.x.low = search rules in
    let f2 : FitsSigned w128 c.args.centre.now.y.low = search rules in
    let f3 : FitsSigned w128 c.args.centre.now.z.low = search rules in
    let f4 : FitsSigned w128 c.args.centre.now.x.high = search rules in
    let f5 : FitsSigned w128 c.args.centre.now.y.high = search rules in
    let f6 : FitsSigned w128 c.args.centre.now.z.high = search rules in
    let h1 : FitsSigned w32 c.args.still.now.low.x = search rules in
    let h2 : FitsSigned w32 c.args.still.now.low.y = search rules in
    let h3 : FitsSigned w32 c.args.still.now.low.z = search rules in
    let h4 : FitsSigned w32 c.args.still.now.high.x = search rules in
    let h5 : FitsSigned w32 c.args.still.now.high.y = search rules in
    let h6 : FitsSigned w32 c.args.still.now.high.z = search rules in
    let g1 : FitsSigned w64 c.head_low.result = search rules in
    let g2 : FitsSigned w64 c.head_low-2.result = search rules in
    let g3 : FitsSigned w64 c.head_low-3.result = search rules in
    let g4 : FitsSigned w64 c.head_high.result = search rules in
    let g5 : FitsSigned w64 c.head_high-2.result = search rules in
    let g6 : FitsSigned w64 c.head_high-3.result = search rules in
    simp to_z-of_z (head_box_is c.args.centre.now c.args.still.now c.head_low.result c.head_low-2.result c.head_low-3.result c.head_high.result c.head_high-2.result
    c.head_high-3.result (simp to_z-of_z at c.head_low.ensures) (simp to_z-of_z at c.head_low-2.ensures) (simp to_z-of_z at c.head_low-3.ensures)
    (simp to_z-of_z at c.head_high.ensures) (simp to_z-of_z at c.head_high-2.ensures) (simp to_z-of_z at c.head_high-3.ensures))
