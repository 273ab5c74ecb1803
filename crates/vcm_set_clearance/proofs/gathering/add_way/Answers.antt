use Rattle.std.proofs.Common.{refl}
use Rattle.vcm_set_clearance.proofs.Adding.{added_one}
use Rattle.vcm_set_clearance.proofs.gathering.add_way.Goals as goal

pub returns : goal.returns
returns c p placed =
    added_one c.args.to.now.is_first _ c.args.to.now.events.items _ _ _ c.in_ok-push.ensures.items refl (record { placed = placed; probe = refl; first = refl })
