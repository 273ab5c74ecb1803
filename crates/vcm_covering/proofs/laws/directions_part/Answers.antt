use Rattle.vcm_covering.proofs.Apart.{apart}
use Rattle.vcm_covering.proofs.laws.directions_part.Goals as goal

pub returns : goal.returns
returns c = apart
