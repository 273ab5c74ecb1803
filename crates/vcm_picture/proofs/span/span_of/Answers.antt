use Rattle.vcm_picture.proofs.Spans.{first_is}
use Rattle.vcm_picture.proofs.span.span_of.Goals as goal

pub of_block-requires-clause-block : goal.of_block-requires-clause-block
of_block-requires-clause-block c = first_is c.args.blocks.now c.in-Some.block.now c.requires.blocks c.in-Some.ensures.item.3.0 c.in-Some.ensures.item.1
