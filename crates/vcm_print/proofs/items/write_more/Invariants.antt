use Rattle.std.proofs.Common.{length}
use Rattle.vcm_print.proofs.Steps.{TookUpTo}
use Rattle.vcm_print.specs.inner.Written.{more_items}
use Rattle.vcm_print.proofs.items.write_more.Given as goal

abbrev pub invariant-loop-item : goal.invariant-loop-item
invariant-loop-item g l = TookUpTo (g.W.Write.contents l.fn.writer) (g.W.Write.contents l.writer) (more_items l.rest) (more_items l.items)

abbrev pub decreases-loop-item : goal.decreases-loop-item
decreases-loop-item g l = length l.rest
