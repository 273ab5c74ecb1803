use Rattle.std.proofs.Common.{rules}
use Rattle.vcm_machine.proofs.machine.Machine.copy.Goals as goal

pub returns : goal.returns
returns g c = search rules
