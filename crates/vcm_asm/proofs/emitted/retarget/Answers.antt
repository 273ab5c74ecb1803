use Rattle.std.proofs.Common.{rules}
use Rattle.vcm_asm.proofs.emitted.retarget.Goals as goal

pub returns-in-Else : goal.returns-in-Else
returns-in-Else c = search rules
