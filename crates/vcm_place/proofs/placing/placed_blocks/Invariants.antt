use Rattle.std.proofs.Common.{◌≡◌, ◌++◌, drop, length}
use Rattle.vcm_place.specs.Placed.{placed_blocks}
use Rattle.vcm_place.proofs.placing.placed_blocks.Given as goal

abbrev pub invariant-loop-block : goal.invariant-loop-block
invariant-loop-block l = record {
  index : l.index ≡ l.block-index;
  few : length l.placed.items ≡ l.block-index;
  rest : l.placed.items ++ placed_blocks l.place l.fixtures l.index (drop l.block-index l.blocks) ≡ placed_blocks l.place l.fixtures 0 l.blocks;
}
