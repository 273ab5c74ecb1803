use Rattle.std.proofs.Common.{rules}
use Rattle.vcm_num.proofs.axis.Axis.index.Goals as goal

pub returns-in-PlusZ-clause-axis : goal.returns-in-PlusZ-clause-axis
returns-in-PlusZ-clause-axis c = search rules
