use Rattle.std.proofs.Common.{length}
use Rattle.vcm_diagnosis.proofs.listing.whole_lines.Given as goal

abbrev pub decreases-lines : goal.decreases-lines
decreases-lines l = length l.rest
