use Rattle.std.proofs.Common.{rules}
use Rattle.vcm_syntax.proofs.figures.direction.Goals as goal

pub returns-then-are_whole-3 : goal.returns-then-are_whole-3
returns-then-are_whole-3 c = search rules

pub returns-else-are_whole-6 : goal.returns-else-are_whole-6
returns-else-are_whole-6 c = search rules
