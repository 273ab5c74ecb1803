use Rattle.std.proofs.Common.{rules}
use Rattle.vcm_syntax.proofs.figures.quarters.Goals as goal

pub returns-then-is_whole-3 : goal.returns-then-is_whole-3
returns-then-is_whole-3 c = search rules

pub returns-then-is_whole-5 : goal.returns-then-is_whole-5
returns-then-is_whole-5 c = search rules

pub returns-else-is_whole-7 : goal.returns-else-is_whole-7
returns-else-is_whole-7 c = search rules
