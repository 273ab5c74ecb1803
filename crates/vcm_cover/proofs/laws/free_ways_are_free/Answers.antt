use Rattle.vcm_cover.proofs.Straight.{free}
use Rattle.vcm_cover.proofs.laws.free_ways_are_free.Goals as goal

pub returns : goal.returns
returns c = free
