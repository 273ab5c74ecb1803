use Rattle.std.proofs.Common.{◌≡◌, ◌++◌, drop}
use Rattle.std.specs.List.{flat_map}
use Rattle.vcm_given.specs.Missing.{missing_by, missing_probes}
use Rattle.vcm_given.proofs.missing.missing_probes.Given as goal

abbrev pub invariant-loop-logical : goal.invariant-loop-logical
invariant-loop-logical l = record {
  left : missing_probes l.probes l.lines ≡ l.out ++ flat_map (missing_by l.probes l.lines) (drop l.logical-index l.lines);
}
