use Rattle.std.proofs.Common.{◌≡◌, ◌+◌, drop}
use Rattle.vcm_probe_set.specs.Parts.{first_unclear}
use Rattle.vcm_probe_set.proofs.fitting.first_unclear.Given as goal

abbrev pub invariant-loop-probe : goal.invariant-loop-probe
invariant-loop-probe l = record {
  number : l.number ≡ l.probe-index + 1;
  read : first_unclear l.part l.number (drop l.probe-index l.probes) ≡ first_unclear l.part 1 l.probes;
}
