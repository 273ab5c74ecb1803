use Rattle.vcm_debug.proofs.Backwards.{last_end_unique}
use Rattle.vcm_debug.proofs.laws.last_end_is_unique.Goals as goal

pub returns : goal.returns
returns c = last_end_unique
