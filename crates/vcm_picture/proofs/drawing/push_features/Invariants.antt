use Rattle.std.proofs.Common.{◌≡◌, ◌++◌, drop}
use Rattle.vcm_picture.specs.Drawing.{feature_shapes}
use Rattle.vcm_picture.proofs.drawing.push_features.Given as goal

abbrev pub invariant-loop-one : goal.invariant-loop-one
invariant-loop-one l = record {
  shapes : l.shapes.items ++ feature_shapes l.fn.unit (drop l.one-index l.named) ≡ l.fn.shapes.items ++ feature_shapes l.fn.unit l.named;
}
