use Rattle.std.proofs.Common.{length}
use Rattle.vcm_listing.proofs.ReadLaws.{Left}
use Rattle.vcm_listing.proofs.reading.lines.Given as goal

abbrev pub invariant-loop-text : goal.invariant-loop-text
invariant-loop-text l = Left l.fn.version l.bytes l.rest l.code l.line

abbrev pub decreases-loop-text : goal.decreases-loop-text
decreases-loop-text l = length l.rest
