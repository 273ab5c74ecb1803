use Rattle.std.proofs.Common.{◌≡◌, ◌++◌}
use Rattle.vcm_calls.specs.Chains.{chain_before, chain}
use Rattle.vcm_calls.proofs.chain.lines_of.Given as goal

abbrev pub invariant-loop-left : goal.invariant-loop-left
invariant-loop-left l = l.lines.items ++ chain_before l.calls l.left l.depth ≡ chain l.calls l.expansion

abbrev pub decreases-loop-left : goal.decreases-loop-left
decreases-loop-left l = l.left
