use Rattle.std.proofs.Common.{length}
use Rattle.vcm_said.proofs.places.+names_table.Given as goal

abbrev pub decreases-names_table : goal.decreases-names_table
decreases-names_table l = length l.words.now
