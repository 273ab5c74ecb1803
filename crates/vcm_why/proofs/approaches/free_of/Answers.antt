use Rattle.vcm_why.specs.Approaches.{free_of}
use Rattle.vcm_why.proofs.approaches.free_of.Goals as goal

pub returns : goal.returns
unfolding free_of
returns c = c.free_approach.ensures
