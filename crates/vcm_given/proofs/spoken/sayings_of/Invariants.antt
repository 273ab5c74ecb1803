use Rattle.std.proofs.Common.{◌≡◌, ◌++◌, drop}
use Rattle.std.specs.List.{flat_map}
use Rattle.vcm_given.specs.Spoken.{spoken, spoken_by}
use Rattle.vcm_given.proofs.spoken.sayings_of.Given as goal

abbrev pub invariant-loop-logical : goal.invariant-loop-logical
invariant-loop-logical l = record {
  left : spoken l.probes l.names l.angle l.lines ≡ l.out ++ flat_map (spoken_by l.probes l.names l.angle l.lines) (drop l.logical-index l.lines);
}
