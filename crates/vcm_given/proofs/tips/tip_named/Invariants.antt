use Rattle.std.proofs.Common.{◌≡◌, drop}
use Rattle.vcm_given.specs.Tips.{tip_named}
use Rattle.vcm_given.proofs.tips.tip_named.Given as goal

abbrev pub invariant-loop-probe : goal.invariant-loop-probe
invariant-loop-probe l = record {
  left : tip_named l.name l.probes ≡ tip_named l.name (drop l.probe-index l.probes);
}
