use Rattle.std.proofs.Common.{rules}
use Rattle.vcm_fields.proofs.fields.known_long.Goals as goal

pub returns : goal.returns
returns c = search rules
