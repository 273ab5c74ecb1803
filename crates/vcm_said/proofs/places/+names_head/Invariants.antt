use Rattle.std.proofs.Common.{length}
use Rattle.vcm_said.proofs.places.+names_head.Given as goal

abbrev pub decreases-names_head : goal.decreases-names_head
decreases-names_head l = length l.words.now
