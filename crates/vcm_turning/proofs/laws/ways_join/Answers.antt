use Rattle.vcm_turning.proofs.Joining.{ways_are_joined}
use Rattle.vcm_turning.proofs.laws.ways_join.Goals as goal

pub returns : goal.returns
returns c = ways_are_joined
