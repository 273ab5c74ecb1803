use Rattle.std.proofs.Common.{arith}
use Rattle.std.proofs.lemmas.Grind.{common_steps}
use Rattle.vcm_motion.proofs.place.part_of_way.Goals as goal

pub returns-else-from-to : goal.returns-else-from-to
returns-else-from-to c = grind (arith, common_steps)
