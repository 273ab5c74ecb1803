use Rattle.std.proofs.Common.{rules}
use Rattle.vcm_way.proofs.way.last_of.Goals as goal

pub loop-first-preserved : goal.loop-first-preserved
loop-first-preserved c = search rules
