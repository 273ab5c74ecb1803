use Rattle.vcm_way.proofs.Clearing.{are_clear}
use Rattle.vcm_way.proofs.laws.ways_are_clear.Goals as goal

pub returns : goal.returns
returns c = are_clear
