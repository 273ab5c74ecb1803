use Rattle.vcm_debug.proofs.Backwards.{last_end_computed}
use Rattle.vcm_debug.proofs.laws.last_end_is_computed.Goals as goal

pub returns : goal.returns
returns c = last_end_computed
