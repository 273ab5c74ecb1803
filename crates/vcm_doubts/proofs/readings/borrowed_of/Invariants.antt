use Rattle.std.proofs.Common.{◌≡◌, ◌++◌, [], drop}
use Rattle.vcm_doubts.specs.Readings.{borrowed_from}
use Rattle.vcm_doubts.proofs.readings.borrowed_of.Given as goal

abbrev pub invariant-loop-statement : goal.invariant-loop-statement
invariant-loop-statement l = record {
  left : borrowed_from l.main [] 0 l.statements ≡ l.lines ++ borrowed_from l.main l.lent l.last (drop l.statement-index l.statements);
}
