use Rattle.std.proofs.Common.{length}
use Rattle.vcm_said.proofs.named.+has_open_mark.Given as goal

abbrev pub decreases-has_open_mark : goal.decreases-has_open_mark
decreases-has_open_mark l = length l.words.now
