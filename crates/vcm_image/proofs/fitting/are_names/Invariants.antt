use Rattle.std.proofs.Common.{drop}
use Rattle.vcm_code.specs.Ranges.{AllAreNames}
use Rattle.vcm_image.proofs.fitting.are_names.Given as goal

abbrev pub invariant-loop-it : goal.invariant-loop-it
invariant-loop-it l = record {
  on : AllAreNames (drop l.it-index l.names) → AllAreNames l.names;
  back : AllAreNames l.names → AllAreNames (drop l.it-index l.names);
}
