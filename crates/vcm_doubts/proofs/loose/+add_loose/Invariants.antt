use Rattle.std.proofs.Common.{length}
use Rattle.vcm_doubts.proofs.loose.+add_loose.Given as goal

abbrev pub decreases-add_loose : goal.decreases-add_loose
decreases-add_loose l = length l.words.now
