use Rattle.std.proofs.Common.{◌≡◌, ◌++◌, drop}
use Rattle.vcm_doubts.proofs.names.add_variables.Given as goal

abbrev pub invariant-loop-variable : goal.invariant-loop-variable
invariant-loop-variable l = record {
  left : l.initial.names ++ l.variables ≡ l.names ++ drop l.variable-index l.variables;
}
