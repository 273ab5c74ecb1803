use Rattle.std.proofs.Common.{rules}
use Rattle.vcm_fields.proofs.items.truth.Goals as goal

pub returns : goal.returns
returns c = search rules
