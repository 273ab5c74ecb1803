use Rattle.std.proofs.Common.{rules}
use Rattle.vcm_svg.proofs.rect.contains.Goals as goal

pub returns-then-covers_across : goal.returns-then-covers_across
returns-then-covers_across c = search rules

pub returns-else-covers_across : goal.returns-else-covers_across
returns-else-covers_across c = search rules
