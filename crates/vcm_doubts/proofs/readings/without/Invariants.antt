use Rattle.std.proofs.Common.{◌≡◌, ◌++◌, drop}
use Rattle.vcm_doubts.specs.Readings.{without}
use Rattle.vcm_doubts.proofs.readings.without.Given as goal

abbrev pub invariant-loop-name : goal.invariant-loop-name
invariant-loop-name l = record {
  left : without l.names l.others ≡ l.left ++ without (drop l.name-index l.names) l.others;
}
