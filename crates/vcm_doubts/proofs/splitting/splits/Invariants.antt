use Rattle.std.proofs.Common.{◌≡◌, false, drop}
use Rattle.vcm_doubts.specs.Doubts.{splits_from}
use Rattle.vcm_doubts.proofs.splitting.splits.Given as goal

abbrev pub invariant-loop-logical : goal.invariant-loop-logical
invariant-loop-logical l = record {
  left : splits_from false l.lines ≡ splits_from l.own (drop l.logical-index l.lines);
}
