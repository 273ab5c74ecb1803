use Rattle.vcm_hardware.proofs.Parts.{parts_are_held}
use Rattle.vcm_hardware.proofs.laws.parts_are_held.Goals as goal

pub returns : goal.returns
returns c = parts_are_held
