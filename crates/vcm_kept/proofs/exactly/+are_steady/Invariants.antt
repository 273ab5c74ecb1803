use Rattle.std.proofs.Common.{length}
use Rattle.vcm_kept.proofs.exactly.+are_steady.Given as goal

abbrev pub decreases-are_steady : goal.decreases-are_steady
decreases-are_steady l = length l.pieces.now
