use Rattle.std.proofs.Common.{rules}
use Rattle.vcm_cover.proofs.making.is_below.Goals as goal

pub returns-then-low-high-2 : goal.returns-then-low-high-2
returns-then-low-high-2 c = search rules

pub returns-else-low-high-2 : goal.returns-else-low-high-2
returns-else-low-high-2 c = search rules
