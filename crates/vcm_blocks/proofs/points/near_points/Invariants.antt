use Rattle.std.proofs.Common.{length}
use Rattle.vcm_blocks.proofs.points.near_points.Given as goal

abbrev pub decreases-loop-rest : goal.decreases-loop-rest
decreases-loop-rest l = length l.rest
