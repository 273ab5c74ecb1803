use Rattle.vcm_naming.proofs.Nothing.{nothing_added}
use Rattle.vcm_naming.proofs.laws.nothing_is_added.Goals as goal

pub returns : goal.returns
returns c = nothing_added
