use Rattle.std.proofs.Common.{◌≡◌, ◌++◌, drop}
use Rattle.vcm_spec.specs.Setup.{kinds_of}
use Rattle.vcm_items.proofs.tables.kinds_of.Given as goal

abbrev pub invariant-loop-variable : goal.invariant-loop-variable
invariant-loop-variable l = l.kinds ++ kinds_of (drop l.variable-index l.variables) ≡ kinds_of l.variables
