use Rattle.std.proofs.Common.{true}
use Rattle.std.specs.Prelude.{map}
use Rattle.vcm_spec.specs.Workpiece.{grown}
use Rattle.vcm_carried.proofs.Widened.{grown_boxes}
use Rattle.vcm_clearance.proofs.Answers.{found_on}
use Rattle.vcm_clearance.proofs.rooms.wider_contact_on.Goals as goal

pub returns : goal.returns
returns c w e =
    found_on 10050000 (map (grown c.args.by) c.args.body.now) c.args.blocks.now.blocks (grown_boxes c.args.by c.args.body.now c.requires.by c.requires.body)
    c.blocks-2.ensures.valid.each c.args.gone.now w e true
    c.first_met_by.result (rw c.blocks-2.ensures.blocks at c.first_met_by.ensures)
