use Rattle.std.proofs.Common.{length}
use Rattle.vcm_expr.proofs.Fronts.{SignsSoFar}
use Rattle.vcm_expr.proofs.signs.with_signs.Given as goal

-- the signs that are left are still to be put before the expression so far
abbrev pub invariant-signs : goal.invariant-signs
invariant-signs l = SignsSoFar l.fn.signs.items l.signs.items l.fn.size l.size l.fn.draft l.draft

abbrev pub decreases-signs : goal.decreases-signs
decreases-signs l = length l.signs.items
