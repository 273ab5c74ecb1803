use Rattle.std.proofs.Common.{◌≤ℤ◌, subst, to_z, of_z}
use Rattle.std.specs.List.{All}
use Rattle.std.proofs.lemmas.Int.{to_z-of_z}
use Rattle.std.proofs.lemmas.List.{take_all}
use Rattle.std.proofs.lemmas.List.Elements.{All-more}
use mir.Syntax.{w32}
use Rattle.vcm_num.specs.Point.{coordinate}
use Rattle.vcm_spec.specs.declared.workpiece.Block3.{Block3}
use Rattle.vcm_cover.proofs.region.are_up_to.Goals as goal

pub loop-block-preserved : goal.loop-block-preserved
loop-block-preserved c =
    All-more (λ (block : Block3). coordinate block.high c.args.axis ≤ℤ to_z w32 (of_z w32 c.args.at)) c.args.blocks.now c.loop-block.block-index _ c.loop-block-test.true c.loop-block.invariant (c.is_up_to.ensures c.if-not-is_up_to.false)

pub returns : goal.returns
returns c = λ _.
    let f = c.ranges.at in
    subst (All (λ (block : Block3). coordinate block.high c.args.axis ≤ℤ c.args.at)) (take_all c.loop-block.block-index c.args.blocks.now c.loop-block-test.false) (simp to_z-of_z at c.loop-block.invariant)
