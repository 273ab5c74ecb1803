use Rattle.vcm_place.proofs.Sums.{moved_is}
use Rattle.vcm_place.proofs.placing.moved.Goals as goal

pub returns : goal.returns
returns c = moved_is c.args.place c.args.point c.requires.place c.requires.point
