use Rattle.vcm_motion.proofs.InOrder.{block_read}
use Rattle.vcm_motion.proofs.layout.spans_of.Goals as goal

pub span_of-requires-clause-block : goal.span_of-requires-clause-block
span_of-requires-clause-block c = block_read c.args.blocks.now c.loop-block.block-index c.requires.blocks c.loop-block-test.true
