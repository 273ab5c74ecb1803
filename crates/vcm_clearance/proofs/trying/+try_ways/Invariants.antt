use Rattle.std.proofs.Common.{length}
use Rattle.vcm_clearance.proofs.trying.+try_ways.Given as goal

abbrev pub decreases-try_ways : goal.decreases-try_ways
decreases-try_ways g l = length l.marks.now
