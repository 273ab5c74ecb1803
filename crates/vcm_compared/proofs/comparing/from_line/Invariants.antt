use Rattle.std.proofs.Common.{◌≡◌, length}
use Rattle.vcm_compared.specs.Compared.{from_line}
use Rattle.vcm_compared.proofs.comparing.from_line.Given as goal

abbrev pub invariant-loop-logical : goal.invariant-loop-logical
invariant-loop-logical l = from_line l.line l.lines ≡ from_line l.line l.rest

abbrev pub decreases-loop-logical : goal.decreases-loop-logical
decreases-loop-logical l = length l.rest
