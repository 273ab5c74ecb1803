use Rattle.std.proofs.Common.{rules}
use Rattle.vcm_num.proofs.arith.add.Goals as goal

pub returns : goal.returns
returns c = search rules
