use Rattle.std.proofs.Common.{length}
use Rattle.vcm_said.proofs.named.+lose_words.Given as goal

abbrev pub decreases-lose_words : goal.decreases-lose_words
decreases-lose_words l = length l.words.now
