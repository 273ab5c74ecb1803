use Rattle.std.proofs.Common.{◌≡◌, ◌++◌, drop}
use Rattle.vcm_doubts.specs.Readings.{compared_from}
use Rattle.vcm_doubts.proofs.readings.compared_of.Given as goal

abbrev pub invariant-loop-statement : goal.invariant-loop-statement
invariant-loop-statement l = record {
  left : compared_from l.names 0 l.statements ≡ l.lines ++ compared_from l.names l.last (drop l.statement-index l.statements);
}
