use Rattle.std.proofs.Common.{◌≡◌, ◌++◌, ◌+◌, drop, true}
use Rattle.std.specs.List.{list_all}
use Rattle.vcm_spec.specs.Workpiece.{is_block}
use Rattle.vcm_picture.specs.Shown.{faces_from}
use Rattle.vcm_picture.proofs.shown.faces_of.Given as goal

abbrev pub invariant-loop-block : goal.invariant-loop-block
invariant-loop-block l = record {
  number : l.number ≡ l.block-index;
  faces : l.faces.items ++ faces_from l.scope (l.block-index + 1) (drop l.block-index l.blocks) ≡ faces_from l.scope 1 l.blocks;
  blocks : list_all is_block (drop l.block-index l.blocks) ≡ true;
}
