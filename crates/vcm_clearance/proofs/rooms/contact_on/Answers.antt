use Rattle.std.proofs.Common.{◌∙◌, arith}
use Rattle.std.specs.Prelude.{map}
use Rattle.vcm_spec.specs.Workpiece.{grown}
use Rattle.vcm_carried.proofs.Widened.{grown_boxes}
use Rattle.vcm_clearance.proofs.Answers.{found_on, unmoved_contact}
use Rattle.vcm_clearance.proofs.rooms.contact_on.Goals as goal

pub returns : goal.returns
returns c w e =
    let body = c.args.body.now in
    let blocks = c.args.blocks.now.blocks in
    let all = c.blocks-2.ensures.valid.each in
    found_on 10050000 (map (grown 0) body) blocks (grown_boxes 0 body (omega arith) c.requires) all c.args.gone.now w e c.args.with_start
    c.first_met_by.result (rw c.blocks-2.ensures.blocks at c.first_met_by.ensures)
    ∙ unmoved_contact body blocks c.requires all w c.args.with_start
