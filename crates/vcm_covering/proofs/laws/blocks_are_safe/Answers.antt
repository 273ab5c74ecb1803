use Rattle.vcm_covering.proofs.Safety.{safe}
use Rattle.vcm_covering.proofs.laws.blocks_are_safe.Goals as goal

pub returns : goal.returns
returns c = safe
