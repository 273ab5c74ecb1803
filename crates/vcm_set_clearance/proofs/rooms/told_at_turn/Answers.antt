use Rattle.vcm_set_clearance.specs.Swings.{standing}
use Rattle.vcm_set_clearance.proofs.Sizes.{boxes_of}
use Rattle.vcm_set_clearance.proofs.rooms.told_at_turn.Goals as goal

pub told_on-requires : goal.told_on-requires
told_on-requires c = rw c.blocks-body.ensures.blocks (boxes_of c.args.body.now.blocks c.blocks-body.ensures.valid.each)

pub returns : goal.returns
returns c ws ch vs is room = (rw c.blocks-body.ensures.blocks at c.told_on.ensures) ws (standing ch) vs (c.standing.ensures ch is) room
