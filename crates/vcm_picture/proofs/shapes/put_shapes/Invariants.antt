use Rattle.std.proofs.Common.{◌≡◌, ◌++◌, drop}
use Rattle.vcm_picture.specs.Shapes.{shapes_text}
use Rattle.vcm_picture.proofs.shapes.put_shapes.Given as goal

abbrev pub invariant-loop-shape : goal.invariant-loop-shape
invariant-loop-shape l = record {
  bytes : l.out.items ++ shapes_text l.features l.stopped (drop l.shape-index l.shapes) ≡ l.fn.out.items ++ shapes_text l.features l.stopped l.shapes;
}
