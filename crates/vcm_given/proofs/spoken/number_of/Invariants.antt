use Rattle.std.proofs.Common.{◌≡◌, drop}
use Rattle.vcm_given.specs.Spoken.{number_of}
use Rattle.vcm_given.proofs.spoken.number_of.Given as goal

abbrev pub invariant-loop-probe : goal.invariant-loop-probe
invariant-loop-probe l = record {
  left : number_of l.name l.probes ≡ number_of l.name (drop l.probe-index l.probes);
}
