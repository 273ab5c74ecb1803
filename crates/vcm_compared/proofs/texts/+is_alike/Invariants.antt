use Rattle.std.proofs.Common.{length}
use Rattle.vcm_compared.proofs.texts.+is_alike.Given as goal

abbrev pub decreases-is_alike : goal.decreases-is_alike
decreases-is_alike l = length l.a.now
