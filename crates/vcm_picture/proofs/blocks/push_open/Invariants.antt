use Rattle.std.proofs.Common.{◌≡◌, ◌++◌, drop}
use Rattle.vcm_picture.specs.Blocks.{open_shapes}
use Rattle.vcm_picture.proofs.blocks.push_open.Given as goal

abbrev pub invariant-loop-seen : goal.invariant-loop-seen
invariant-loop-seen l = record {
  shapes : l.shapes.items ++ open_shapes (drop l.seen-index l.all) ≡ l.fn.shapes.items ++ open_shapes l.all;
}
