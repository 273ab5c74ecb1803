use Rattle.std.proofs.Common.{subst}
use Rattle.std.specs.List.{All}
use Rattle.std.proofs.lemmas.List.{take_all}
use Rattle.std.proofs.lemmas.List.Elements.{All-more}
use Rattle.vcm_cover.specs.inner.Regions.{IsAside}
use Rattle.vcm_cover.proofs.region.is_clear.Goals as goal

pub loop-block-preserved : goal.loop-block-preserved
loop-block-preserved c =
    All-more (IsAside c.args.region.now) c.args.blocks.now c.loop-block.block-index _ c.loop-block-test.true c.loop-block.invariant (c.is_aside.ensures c.if-not-is_aside.false)

pub returns : goal.returns
returns c = λ _. subst (All (IsAside c.args.region.now)) (take_all c.loop-block.block-index c.args.blocks.now c.loop-block-test.false) c.loop-block.invariant
