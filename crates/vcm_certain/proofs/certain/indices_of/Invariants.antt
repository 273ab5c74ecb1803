use Rattle.std.proofs.Common.{◌≡◌, ◌++◌, drop}
use Rattle.vcm_certain.specs.Certain.{indices_of}
use Rattle.vcm_certain.proofs.certain.indices_of.Given as goal

abbrev pub invariant-loop-placed : goal.invariant-loop-placed
invariant-loop-placed l = record {
  left : l.indices.items ++ indices_of (drop l.placed-index l.all) ≡ indices_of l.all;
}
