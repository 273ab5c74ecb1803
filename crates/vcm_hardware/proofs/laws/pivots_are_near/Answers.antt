use Rattle.vcm_hardware.proofs.Centres.{pivots_are_near}
use Rattle.vcm_hardware.proofs.laws.pivots_are_near.Goals as goal

pub returns : goal.returns
returns c = pivots_are_near
