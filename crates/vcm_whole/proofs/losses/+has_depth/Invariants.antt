use Rattle.std.proofs.Common.{length}
use Rattle.vcm_whole.proofs.losses.+has_depth.Given as goal

abbrev pub decreases-has_depth : goal.decreases-has_depth
decreases-has_depth l = length l.words.now
