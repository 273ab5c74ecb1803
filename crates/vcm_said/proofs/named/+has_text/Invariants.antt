use Rattle.std.proofs.Common.{length}
use Rattle.vcm_said.proofs.named.+has_text.Given as goal

abbrev pub decreases-has_text : goal.decreases-has_text
decreases-has_text l = length l.words.now
