use Rattle.std.proofs.Common.{◌≡◌, drop}
use Rattle.vcm_datums.specs.Datums.{first_feature}
use Rattle.vcm_datums.proofs.datums.first_feature.Given as goal

abbrev pub invariant-loop-datum : goal.invariant-loop-datum
invariant-loop-datum l = record {
  left : first_feature l.name l.datums ≡ first_feature l.name (drop l.datum-index l.datums);
}
