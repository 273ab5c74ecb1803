use Rattle.std.proofs.Common.{rules}
use Rattle.vcm_motion.proofs.entered.sooner.Goals as goal

pub returns-then-next-first : goal.returns-then-next-first
returns-then-next-first c = search rules

pub returns-else-next-first : goal.returns-else-next-first
returns-else-next-first c = search rules
