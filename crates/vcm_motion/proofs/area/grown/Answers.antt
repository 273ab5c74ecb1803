use Rattle.vcm_motion.proofs.Inside.{low_reachable, high_reachable}
use Rattle.vcm_motion.proofs.Wide.{grown_wide}
use Rattle.vcm_motion.proofs.area.grown.Goals as goal

pub lowered-requires-clause-at : goal.lowered-requires-clause-at
lowered-requires-clause-at c = low_reachable c.args.block.now c.requires.block

pub raised-requires-clause-at : goal.raised-requires-clause-at
raised-requires-clause-at c = high_reachable c.args.block.now c.requires.block

pub returns-clause-wide : goal.returns-clause-wide
returns-clause-wide c = rw (c.lowered.ensures, c.raised.ensures) (grown_wide c.args.by c.args.block.now c.requires.by c.requires.block)
