use Rattle.std.proofs.Common.{◌∙◌, rules, w32, FitsSigned, to_z, of_z, to_z-of_z}
use Rattle.vcm_hardware.specs.Boxes.{turning_of}
use Rattle.vcm_hardware.specs.ProbeFile.{probe_head, pose_text, probe_boxes}
use Rattle.vcm_hardware.proofs.Appended.{three}
use Rattle.vcm_hardware.proofs.Probes.{turned_of, turned_text}
use Rattle.vcm_hardware.proofs.writing.put_probe.Goals as goal

pub returns : goal.returns
returns c =
    let h = c.args.hardware.now in
    let choice = c.args.choice.now in
    let t = c.turning_of-turning.result in
    let ft : FitsSigned w32 c.turn.result = search rules in
    let e = turned_of t (to_z w32 (of_z w32 c.turn.result)) h.turn choice c.turning_of-turning.ensures (to_z-of_z ft ∙ c.turn.ensures) in
    turned_text c.put_boxes.result c.args.out.now.items _ h t (turning_of h.turn choice) choice e
    (three _ _ _ _ _ (probe_head h t choice) (pose_text choice) (probe_boxes h t choice) c.in_ok-put_probe_head.ensures c.in_ok-put_pose.ensures c.put_boxes.ensures)
