use Rattle.vcm_hardware.specs.Boxes.{tip_of, centre}
use Rattle.vcm_hardware.specs.ProbeFile.{parts_text, balls_text, heads_text}
use Rattle.vcm_hardware.proofs.Appended.{three}
use Rattle.vcm_hardware.proofs.Probes.{tip_text}
use Rattle.vcm_hardware.proofs.writing.put_boxes.Goals as goal

pub returns : goal.returns
returns c =
    let h = c.args.hardware.now in
    let t = c.args.turning.now in
    let choice = c.args.choice.now in
    let tip = c.tip_of-tip.result in
    tip_text c.put_heads.result c.args.out.now.items _ h t choice.tip tip (tip_of h.balls choice) (rw c.balls.ensures at c.tip_of-tip.ensures)
    (three _ _ _ _ _ (parts_text t tip h.parts) (balls_text t tip choice.tip 0 h.balls) (heads_text (centre t tip) h.heads)
    (rw c.parts.ensures.parts at c.in_ok-put_parts.ensures) (rw c.balls-2.ensures at c.in_ok-put_balls.ensures) (rw c.heads.ensures at c.put_heads.ensures))
