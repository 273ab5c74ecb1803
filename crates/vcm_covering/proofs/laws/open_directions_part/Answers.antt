use Rattle.vcm_covering.proofs.Apart.{apart_open}
use Rattle.vcm_covering.proofs.laws.open_directions_part.Goals as goal

pub returns : goal.returns
returns c = apart_open
