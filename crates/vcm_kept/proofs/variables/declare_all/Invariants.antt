use Rattle.std.proofs.Common.{◌≡◌, ◌++◌, drop}
use Rattle.vcm_kept.specs.Guarding.{with_variables, declares_all}
use Rattle.vcm_kept.proofs.variables.declare_all.Given as goal

abbrev pub invariant-loop-name : goal.invariant-loop-name
invariant-loop-name l = record {
  put : l.out.items ++ declares_all l.line l.names l.expansion l.kind (drop l.name-index l.declared)
      ≡ l.initial.out.items ++ declares_all l.line l.initial.names l.expansion l.kind l.declared;
  names : with_variables l.names l.expansion l.kind (drop l.name-index l.declared) ≡ with_variables l.initial.names l.expansion l.kind l.declared;
}
