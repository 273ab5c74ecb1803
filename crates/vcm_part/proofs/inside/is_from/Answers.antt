use Rattle.std.proofs.Common.{rules}
use Rattle.vcm_part.proofs.inside.is_from.Goals as goal

pub returns : goal.returns
returns c = search rules
