use Rattle.std.proofs.Common.{rules}
use Rattle.vcm_motion.proofs.blocks.BlocksPart.first_face.Goals as goal

pub returns : goal.returns
returns c = search rules
