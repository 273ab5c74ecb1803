use Rattle.std.proofs.Common.{rules}
use Rattle.vcm_part.proofs.inside.is_within.Goals as goal

pub returns-then-is_below : goal.returns-then-is_below
returns-then-is_below c = search rules
