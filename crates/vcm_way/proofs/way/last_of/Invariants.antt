use Rattle.std.proofs.Common.{length}
use Rattle.vcm_way.proofs.Lists.{IsSought}
use Rattle.vcm_way.proofs.way.last_of.Given as goal

abbrev pub decreases-loop-first : goal.decreases-loop-first
decreases-loop-first l = length l.rest

abbrev pub invariant-loop-first : goal.invariant-loop-first
invariant-loop-first l = IsSought l.most l.count l.left l.rest l.marks
