use Rattle.vcm_machine.proofs.RestsAlong.{rests_always}
use Rattle.vcm_machine.proofs.laws.the_probe_rests.Goals as goal

pub returns : goal.returns
returns c = rests_always
