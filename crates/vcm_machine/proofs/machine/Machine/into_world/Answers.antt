use Rattle.std.proofs.Common.{rules}
use Rattle.vcm_machine.proofs.machine.Machine.into_world.Goals as goal

pub returns-clause-state : goal.returns-clause-state
returns-clause-state g c = search rules
