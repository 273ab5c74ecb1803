use Rattle.vcm_hardware.proofs.Angles.{angles_give_turns}
use Rattle.vcm_hardware.proofs.laws.angles_give_turns.Goals as goal

pub returns : goal.returns
returns c = angles_give_turns
