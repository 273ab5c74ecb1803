use Rattle.std.proofs.Common.{rules}
use Rattle.vcm_motion.proofs.entered.Entered.number.Goals as goal

pub returns : goal.returns
returns c = search rules
