use Rattle.std.proofs.Common.{length}
use Rattle.vcm_templates.proofs.expressions.+are_current.Given as goal

abbrev pub decreases-are_current : goal.decreases-are_current
decreases-are_current l = length l.all.now
