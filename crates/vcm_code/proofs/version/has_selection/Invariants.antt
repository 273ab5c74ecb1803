use Rattle.std.proofs.Common.{◌≡◌, drop}
use Rattle.vcm_code.specs.Ranges.{has_selection}
use Rattle.vcm_code.proofs.version.has_selection.Given as goal

abbrev pub invariant-loop-statement : goal.invariant-loop-statement
invariant-loop-statement l = has_selection l.statements ≡ has_selection (drop l.statement-index l.statements)
