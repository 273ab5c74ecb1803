use Rattle.std.proofs.Common.{rules}
use Rattle.vcm_part.proofs.reading.is_clear.Goals as goal

pub returns-then-is_within : goal.returns-then-is_within
returns-then-is_within c = search rules
