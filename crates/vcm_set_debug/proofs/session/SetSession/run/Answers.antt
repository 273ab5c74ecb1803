use Rattle.std.proofs.Common.{ap}
use Rattle.vcm_set_debug.proofs.Rooms.{kept_room}
use Rattle.vcm_set_debug.proofs.session.SetSession.run.Goals as goal

pub invariant_of-self : goal.invariant_of-self
invariant_of-self g c =
    let i = c.self.inside in
    kept_room i.course c.run_on.new.course i.breakpoints.items i.watches.items i.before.items c.run_on.new.before.items c.self.invariant (ap (λ r. r.code) c.in-Ok.ensures.run.0)
    c.in-Ok.ensures.room

pub invariant_of-self-in-Err : goal.invariant_of-self-in-Err
invariant_of-self-in-Err g c =
    let i = c.self.inside in
    kept_room i.course c.run_on.new.course i.breakpoints.items i.watches.items i.before.items c.run_on.new.before.items c.self.invariant (ap (λ r. r.code) c.in-Err.ensures.run.0)
    c.in-Err.ensures.room
