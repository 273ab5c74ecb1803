use Rattle.std.proofs.Common.{rules}
use Rattle.vcm_asm.proofs.emitted.Emitted.put.Goals as goal

pub returns : goal.returns
returns c = search rules
