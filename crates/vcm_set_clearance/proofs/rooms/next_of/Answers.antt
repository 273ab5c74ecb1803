use Rattle.vcm_set_clearance.proofs.Seeing.{next_by}
use Rattle.vcm_set_clearance.proofs.rooms.next_of.Goals as goal

pub returns-then-way-probe : goal.returns-then-way-probe
returns-then-way-probe c ws h is room =
    next_by c.args.blocks.now.blocks c.args.body.now c.args.probe c.in-Way.way h (rw c.in-Way.is at is) c.if-way-probe.true ws c.next_room.result
    (λ p placed. c.next_room.ensures ws p placed room)
