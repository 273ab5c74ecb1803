use Rattle.std.proofs.Common.{length}
use Rattle.vcm_compared.proofs.counted.+hands.Given as goal

abbrev pub decreases-hands : goal.decreases-hands
decreases-hands l = length l.words.now
