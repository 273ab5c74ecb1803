use Rattle.std.proofs.Common.{length}
use Rattle.vcm_first_contact.proofs.first.+first_among.Given as goal

abbrev pub decreases-first_among : goal.decreases-first_among
decreases-first_among l = length l.marks.now
