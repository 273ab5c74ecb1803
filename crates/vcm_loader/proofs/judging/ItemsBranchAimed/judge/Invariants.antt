use Rattle.std.proofs.Common.{drop}
use Rattle.vcm_loader.proofs.Judgements.{AreBelow}
use Rattle.vcm_loader.proofs.judging.ItemsBranchAimed.judge.Given as goal

abbrev pub invariant-loop-branch : goal.invariant-loop-branch
invariant-loop-branch l = AreBelow l.statements l.self (drop l.branch-index l.self)
