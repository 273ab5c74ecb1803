use Rattle.std.proofs.Common.{length}
use Rattle.vcm_doubts.proofs.loose.+add_quoted.Given as goal

abbrev pub decreases-add_quoted : goal.decreases-add_quoted
decreases-add_quoted l = length l.words.now
