use Rattle.std.proofs.Common.{length}
use Rattle.vcm_loader.proofs.Judgements.{AreBelow}
use Rattle.vcm_loader.proofs.judging.BranchSliceAimed.judge.Given as goal

abbrev pub decreases-loop-branch : goal.decreases-loop-branch
decreases-loop-branch l = length l.rest

abbrev pub invariant-loop-branch : goal.invariant-loop-branch
invariant-loop-branch l = AreBelow l.statements l.self l.rest
