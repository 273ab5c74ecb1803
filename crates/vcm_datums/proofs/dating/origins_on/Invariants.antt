use Rattle.std.proofs.Common.{◌≡◌, drop}
use Rattle.vcm_datums.specs.Dated.{origins_on}
use Rattle.vcm_datums.proofs.dating.origins_on.Given as goal

abbrev pub invariant-loop-one : goal.invariant-loop-one
invariant-loop-one l = record {
  left : origins_on l.line l.made ≡ origins_on l.line (drop l.one-index l.made);
}
