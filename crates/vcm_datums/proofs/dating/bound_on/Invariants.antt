use Rattle.std.proofs.Common.{◌≡◌, drop}
use Rattle.vcm_datums.specs.Dated.{bound_on}
use Rattle.vcm_datums.proofs.dating.bound_on.Given as goal

abbrev pub invariant-loop-datum : goal.invariant-loop-datum
invariant-loop-datum l = record {
  left : bound_on l.line l.datums ≡ bound_on l.line (drop l.datum-index l.datums);
}
