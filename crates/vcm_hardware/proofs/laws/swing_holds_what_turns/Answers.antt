use Rattle.vcm_hardware.proofs.Angles.{swing_holds_what_turns}
use Rattle.vcm_hardware.proofs.laws.swing_holds_what_turns.Goals as goal

pub returns : goal.returns
returns c = swing_holds_what_turns
