use Rattle.std.proofs.Common.{length}
use Rattle.vcm_carried.proofs.hull.+hull.Given as goal

abbrev pub decreases-hull : goal.decreases-hull
decreases-hull l = length l.body.now
