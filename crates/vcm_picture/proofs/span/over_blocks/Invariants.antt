use Rattle.std.proofs.Common.{◌≡◌, IsTrue, drop}
use Rattle.std.specs.List.{list_all}
use Rattle.vcm_spec.specs.Workpiece.{is_block}
use Rattle.vcm_picture.specs.Span.{over_blocks}
use Rattle.vcm_picture.proofs.span.over_blocks.Given as goal

abbrev pub invariant-loop-block : goal.invariant-loop-block
invariant-loop-block l = record {
  span : over_blocks l.axis l.span (drop l.block-index l.blocks) ≡ over_blocks l.axis l.fn.span l.blocks;
  left : IsTrue (list_all is_block (drop l.block-index l.blocks));
}
