use Rattle.std.proofs.Common.{rules}
use Rattle.vcm_asm.proofs.emit.repeat.Goals as goal

pub returns-clause-op : goal.returns-clause-op
returns-clause-op c = search rules
