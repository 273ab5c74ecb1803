use Rattle.vcm_clearance.proofs.Single.{rooms_one}
use Rattle.vcm_clearance.proofs.laws.rooms_are_one.Goals as goal

pub returns : goal.returns
returns c = rooms_one
