use Rattle.std.proofs.Common.{◌≡◌, length}
use Rattle.vcm_compared.specs.Counted.{below}
use Rattle.vcm_compared.proofs.counted.below.Given as goal

abbrev pub invariant-loop-logical : goal.invariant-loop-logical
invariant-loop-logical l = below l.line l.lines ≡ below l.line l.rest

abbrev pub decreases-loop-logical : goal.decreases-loop-logical
decreases-loop-logical l = length l.rest
