use Rattle.std.proofs.Common.{drop}
use Rattle.std.specs.List.{AllByRecursion}
use Rattle.vcm_items.specs.NameBytes.{IsVariableName}
use Rattle.vcm_diagnosis.proofs.declaring.are_named.Given as goal

abbrev pub invariant-loop-variable : goal.invariant-loop-variable
invariant-loop-variable l = AllByRecursion IsVariableName (drop l.variable-index l.names) → AllByRecursion IsVariableName l.names
