use Rattle.std.proofs.Common.{arith}
use Rattle.vcm_motion.proofs.Inside.{high_reachable}
use Rattle.vcm_motion.proofs.Wide.{near_wide_again}
use Rattle.vcm_motion.proofs.layout.span_of.Goals as goal

pub strip_of-last-requires-clause-x : goal.strip_of-last-requires-clause-x
strip_of-last-requires-clause-x c = near_wide_again _ (high_reachable c.args.block.now c.requires.block 0 (omega arith))
