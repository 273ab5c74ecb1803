use Rattle.std.proofs.Common.{rules, w32, w64, FitsSigned, to_z-of_z}
use mir.Syntax.{w128}
use Rattle.vcm_hardware.proofs.Probes.{ball_box_is}
use Rattle.vcm_hardware.proofs.boxes.ball_box.Goals as goal

pub returns : goal.returns
returns c =
    let f1 : FitsSigned w128 c.turned-at.result.x.low = search rules in
    let f2 : FitsSigned w128 c.turned-at.result.y.low = search rules in
    let f3 : FitsSigned w128 c.turned-at.result.z.low = search rules in
    let f4 : FitsSigned w128 c.turned-at.result.x.high = search rules in
    let f5 : FitsSigned w128 c.turned-at.result.y.high = search rules in
    let f6 : FitsSigned w128 c.turned-at.result.z.high = search rules in
    let fd : FitsSigned w32 c.args.ball.now.diameter = search rules in
    let fr : FitsSigned w128 c.radius_of-radius.result = search rules in
    let g1 : FitsSigned w64 c.ball_low.result = search rules in
    let g2 : FitsSigned w64 c.ball_low-2.result = search rules in
    let g3 : FitsSigned w64 c.ball_low-3.result = search rules in
    let g4 : FitsSigned w64 c.ball_high.result = search rules in
    let g5 : FitsSigned w64 c.ball_high-2.result = search rules in
    let g6 : FitsSigned w64 c.ball_high-3.result = search rules in
    let r = simp to_z-of_z at c.radius_of-radius.ensures.value in
    simp to_z-of_z (ball_box_is c.args.turning.now c.args.tip c.args.ball.now c.turned-at.result c.radius_of-radius.result c.ball_low.result c.ball_low-2.result
    c.ball_low-3.result c.ball_high.result c.ball_high-2.result c.ball_high-3.result c.turned-at.ensures.value r (simp to_z-of_z at c.ball_low.ensures)
    (simp to_z-of_z at c.ball_low-2.ensures) (simp to_z-of_z at c.ball_low-3.ensures) (simp to_z-of_z at c.ball_high.ensures)
    (simp to_z-of_z at c.ball_high-2.ensures) (simp to_z-of_z at c.ball_high-3.ensures))
