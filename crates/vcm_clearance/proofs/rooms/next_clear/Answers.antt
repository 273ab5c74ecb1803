use Rattle.vcm_clearance.proofs.Trials.{trial_clear}
use Rattle.vcm_clearance.proofs.rooms.next_clear.Goals as goal

pub returns-in-None : goal.returns-in-None
returns-in-None c ws p placed room =
    trial_clear c.args.blocks.now.blocks c.args.body.now c.requires.body c.bounds-bounds.ensures.valid.each c.args.gone.now c.args.place ws p placed c.args.by c.args.narrow c.wider_contact_on.result
    c.in-None.is c.wider_contact_on.ensures room
