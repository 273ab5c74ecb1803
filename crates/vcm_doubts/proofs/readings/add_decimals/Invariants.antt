use Rattle.std.proofs.Common.{◌≡◌, drop}
use Rattle.vcm_doubts.specs.Readings.{decimals_from}
use Rattle.vcm_doubts.proofs.readings.add_decimals.Given as goal

abbrev pub invariant-loop-statement : goal.invariant-loop-statement
invariant-loop-statement l = record {
  left : decimals_from l.fn.names l.statements ≡ decimals_from l.names (drop l.statement-index l.statements);
}
