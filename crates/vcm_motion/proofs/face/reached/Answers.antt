use Rattle.std.proofs.Common.{rules}
use Rattle.vcm_motion.proofs.face.reached.Goals as goal

pub returns-then-reach-distance-clause-missed : goal.returns-then-reach-distance-clause-missed
returns-then-reach-distance-clause-missed c = search rules
