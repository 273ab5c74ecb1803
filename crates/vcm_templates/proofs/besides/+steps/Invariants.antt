use Rattle.std.proofs.Common.{length}
use Rattle.vcm_templates.proofs.besides.+steps.Given as goal

abbrev pub decreases-steps : goal.decreases-steps
decreases-steps l = length l.pieces.now
