use Rattle.std.proofs.Common.{◌≡◌, ◌++◌, drop, flat_map, map}
use Rattle.vcm_survey.specs.Faults.{told_of}
use Rattle.vcm_survey.proofs.faults.told_text.Given as goal

abbrev pub invariant-loop-fault : goal.invariant-loop-fault
invariant-loop-fault l = record {
  bytes : l.out.items ++ flat_map (told_of l.front (map (λ s. s.now) l.lines)) (drop l.fault-index l.faults)
      ≡ flat_map (told_of l.front (map (λ s. s.now) l.lines)) l.faults;
}
