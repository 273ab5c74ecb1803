use Rattle.std.proofs.Common.{◌≡◌, drop}
use Rattle.vcm_sheet.specs.Legend.{used_in}
use Rattle.vcm_sheet.proofs.legend.used_in.Given as goal

abbrev pub invariant-loop-shape : goal.invariant-loop-shape
invariant-loop-shape l = record {
  used : used_in l.scope l.used (drop l.shape-index l.shapes) ≡ used_in l.scope l.fn.before l.shapes;
}
