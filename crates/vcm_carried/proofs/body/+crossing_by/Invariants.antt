use Rattle.std.proofs.Common.{length}
use Rattle.vcm_carried.proofs.body.+crossing_by.Given as goal

abbrev pub decreases-crossing_by : goal.decreases-crossing_by
decreases-crossing_by l = length l.body.now
