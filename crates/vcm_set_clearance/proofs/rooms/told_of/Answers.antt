use Rattle.std.proofs.Common.{ap, ◌∙◌, Bool}
use Rattle.vcm_clearance.specs.Contacts.{told_on}
use Rattle.vcm_set_clearance.proofs.Sizes.{boxes_of}
use Rattle.vcm_set_clearance.proofs.rooms.told_of.Goals as goal

pub told_on-requires : goal.told_on-requires
told_on-requires c = rw c.blocks-body.ensures.blocks (boxes_of c.args.body.now.blocks c.blocks-body.ensures.valid.each)

pub returns : goal.returns
returns c ws w vs is room =
    (rw c.blocks-body.ensures.blocks at c.told_on.ensures) ws w.way vs is.placed room ∙ ap (λ (b : Bool). told_on c.args.blocks.now.blocks b c.args.body.now.blocks w.way) is.first
