use Rattle.vcm_set_contacts.proofs.Stopping.{within_there, stands_placed}
use Rattle.vcm_set_contacts.proofs.passing.follow.Goals as goal

pub stand-requires : goal.stand-requires
stand-requires g c =
    let r = rw c.in-On.is at c.requires in
    within_there c.args.machine.now c.in-On.at (r.2.0).within

pub skip-requires : goal.skip-requires
skip-requires g c =
    let r = rw c.in-On.is at c.requires in
    (r.0, stands_placed c.args.machine.now c.stand.new.self c.in-On.at r.0 c.stand.ensures r.1, r.2.1)
