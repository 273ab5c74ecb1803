use Rattle.std.proofs.Common.{◌≡◌, ◌++◌, drop, map}
use Rattle.vcm_templates.specs.Carried.{length_name}
use Rattle.vcm_kept.proofs.approaches.length_names.Given as goal

abbrev pub invariant-loop-one : goal.invariant-loop-one
invariant-loop-one l = record {
  left : map length_name l.lengths ≡ l.names ++ map length_name (drop l.one-index l.lengths);
}
