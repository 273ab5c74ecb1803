use Rattle.std.proofs.Common.{◌≡◌, ◌++◌, drop, flat_map, option_to_list}
use Rattle.vcm_picture.proofs.shapes.push_shapes.Given as goal

abbrev pub invariant-loop-shape : goal.invariant-loop-shape
invariant-loop-shape l = record {
  shapes : l.shapes.items ++ flat_map option_to_list (drop l.shape-index l.more) ≡ l.fn.shapes.items ++ flat_map option_to_list l.more;
}
