use Rattle.std.proofs.Common.{length}
use Rattle.vcm_sentences.proofs.Putting.{IsPut}
use Rattle.vcm_sentences.proofs.cleaning.put_line.Given as goal

abbrev pub invariant-segments : goal.invariant-segments
invariant-segments l = IsPut l.line l.fn.out.items l.out.items l.goes_on l.rest

abbrev pub decreases-segments : goal.decreases-segments
decreases-segments l = length l.rest
