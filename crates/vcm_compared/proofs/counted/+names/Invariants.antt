use Rattle.std.proofs.Common.{length}
use Rattle.vcm_compared.proofs.counted.+names.Given as goal

abbrev pub decreases-names : goal.decreases-names
decreases-names l = length l.words.now
