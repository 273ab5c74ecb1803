use Rattle.std.proofs.Common.{arith}
use Rattle.vcm_lines.proofs.Raising.{raised_step}
use Rattle.vcm_lines.proofs.clean.raise.Goals as goal

pub loop-b-preserved : goal.loop-b-preserved
loop-b-preserved c = raised_step c.args.bytes.now c.loop-b.bytes c.loop-b.b-index c.upper.result (omega arith) c.loop-b.invariant c.upper.ensures
