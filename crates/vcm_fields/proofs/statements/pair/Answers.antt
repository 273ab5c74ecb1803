use Rattle.std.proofs.Common.{rules}
use Rattle.vcm_fields.proofs.statements.pair.Goals as goal

pub returns : goal.returns
returns c = search rules
