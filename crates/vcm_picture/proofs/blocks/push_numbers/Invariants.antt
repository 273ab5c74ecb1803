use Rattle.std.proofs.Common.{◌≡◌, ◌++◌, drop}
use Rattle.vcm_picture.specs.Blocks.{number_shapes}
use Rattle.vcm_picture.proofs.blocks.push_numbers.Given as goal

abbrev pub invariant-loop-seen : goal.invariant-loop-seen
invariant-loop-seen l = record {
  shapes : l.shapes.items ++ number_shapes (drop l.seen-index l.all) ≡ l.fn.shapes.items ++ number_shapes l.all;
}
