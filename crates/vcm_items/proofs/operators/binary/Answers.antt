use Rattle.std.proofs.Common.{rules}
use Rattle.vcm_items.proofs.operators.binary.Goals as goal

pub returns-in-Compare : goal.returns-in-Compare
returns-in-Compare c = search rules
