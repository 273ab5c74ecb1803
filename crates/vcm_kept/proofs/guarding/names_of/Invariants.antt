use Rattle.std.proofs.Common.{◌≡◌, ◌++◌, drop, map}
use Rattle.vcm_templates.specs.Carried.{carried_name}
use Rattle.vcm_kept.proofs.guarding.names_of.Given as goal

abbrev pub invariant-loop-one : goal.invariant-loop-one
invariant-loop-one l = record {
  left : map carried_name l.carried ≡ l.names ++ map carried_name (drop l.one-index l.carried);
}
