use Rattle.std.proofs.Common.{◌≡◌, drop}
use Rattle.vcm_doubts.specs.Readings.{sums_from}
use Rattle.vcm_doubts.proofs.readings.add_sums.Given as goal

abbrev pub invariant-loop-statement : goal.invariant-loop-statement
invariant-loop-statement l = record {
  left : sums_from l.decimals l.fn.names l.statements ≡ sums_from l.decimals l.names (drop l.statement-index l.statements);
}
