use Rattle.std.proofs.Common.{◌≡◌, drop}
use Rattle.vcm_picture.specs.Names.{with_all_touched}
use Rattle.vcm_picture.proofs.Boxes.{naming}
use Rattle.vcm_picture.proofs.names.feature_names.Given as goal

abbrev pub invariant-loop-placed : goal.invariant-loop-placed
invariant-loop-placed l = record {
  names : with_all_touched l.scope l.features (drop l.placed-index l.marks) (naming l.taken.items l.named.items)
      ≡ with_all_touched l.scope l.features l.marks (naming l.fn.taken.items l.fn.named.items);
}
