use Rattle.std.proofs.Common.{rules}
use Rattle.vcm_part.proofs.reading.tip_at.Goals as goal

pub returns-clause-small : goal.returns-clause-small
returns-clause-small c = search rules
