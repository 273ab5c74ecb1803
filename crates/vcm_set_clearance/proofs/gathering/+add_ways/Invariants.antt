use Rattle.std.proofs.Common.{length}
use Rattle.vcm_set_clearance.proofs.gathering.+add_ways.Given as goal

abbrev pub decreases-add_ways : goal.decreases-add_ways
decreases-add_ways l = length l.marks.now
