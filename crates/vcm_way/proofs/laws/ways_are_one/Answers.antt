use Rattle.vcm_way.proofs.OneWay.{one_way}
use Rattle.vcm_way.proofs.laws.ways_are_one.Goals as goal

pub returns : goal.returns
returns c = one_way
