use Rattle.std.proofs.Common.{◌≡◌, ◌++◌, length}
use Rattle.vcm_words.proofs.braces.BranchWordsBranches.to_branches.Given as goal

abbrev pub decreases-loop-branch : goal.decreases-loop-branch
decreases-loop-branch l = length l.rest

abbrev pub invariant-loop-branch : goal.invariant-loop-branch
invariant-loop-branch l = l.copy ++ l.rest ≡ l.self
