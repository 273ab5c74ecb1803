use Rattle.std.proofs.Common.{arith}
use Rattle.vcm_spec.specs.Workpiece.{is_block}
use Rattle.vcm_picture.proofs.Faces.{faces_on, tests_on}
use Rattle.vcm_picture.proofs.shown.faces_of.Goals as goal

pub loop-block-preserved : goal.loop-block-preserved
loop-block-preserved c = record {
  number = omega arith;
  faces = faces_on c.args.scope c.args.blocks.now c.loop-block.block-index c.loop-block.number _ c.loop-block.faces.items _ _ c.face_of.result
      c.loop-block-test.true c.loop-block.invariant.number c.face_of.ensures c.in_ok-push.ensures.items c.loop-block.invariant.faces;
  blocks = tests_on is_block c.args.blocks.now c.loop-block.block-index c.loop-block-test.true c.loop-block.invariant.blocks;
}
