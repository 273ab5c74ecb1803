use Rattle.vcm_way.proofs.Hanging.{hang_together}
use Rattle.vcm_way.proofs.laws.ways_hang_together.Goals as goal

pub returns : goal.returns
returns c = hang_together
