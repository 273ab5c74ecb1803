use Rattle.std.proofs.Common.{length}
use Rattle.vcm_print.proofs.Steps.{TookUpTo}
use Rattle.vcm_print.specs.inner.Written.{more_branches}
use Rattle.vcm_print.proofs.branches.write_more.Given as goal

abbrev pub invariant-loop-branch : goal.invariant-loop-branch
invariant-loop-branch g l = TookUpTo (g.W.Write.contents l.fn.writer) (g.W.Write.contents l.writer) (more_branches l.rest) (more_branches l.branches)

abbrev pub decreases-loop-branch : goal.decreases-loop-branch
decreases-loop-branch g l = length l.rest
