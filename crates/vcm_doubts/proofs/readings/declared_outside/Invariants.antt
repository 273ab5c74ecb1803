use Rattle.std.proofs.Common.{◌≡◌, ◌++◌, false, drop}
use Rattle.vcm_doubts.specs.Readings.{declared_outside}
use Rattle.vcm_doubts.proofs.readings.declared_outside.Given as goal

abbrev pub invariant-loop-statement : goal.invariant-loop-statement
invariant-loop-statement l = record {
  left : declared_outside l.lines false l.statements ≡ l.names ++ declared_outside l.lines l.opened (drop l.statement-index l.statements);
}
