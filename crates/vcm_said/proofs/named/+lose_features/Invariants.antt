use Rattle.std.proofs.Common.{length}
use Rattle.vcm_said.proofs.named.+lose_features.Given as goal

abbrev pub decreases-lose_features : goal.decreases-lose_features
decreases-lose_features l = length l.words.now
