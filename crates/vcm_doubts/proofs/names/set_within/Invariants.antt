use Rattle.std.proofs.Common.{◌≡◌, ◌++◌, drop, false}
use Rattle.vcm_doubts.specs.Doubts.{set_within}
use Rattle.vcm_doubts.proofs.names.set_within.Given as goal

abbrev pub invariant-loop-statement : goal.invariant-loop-statement
invariant-loop-statement l = record {
  left : set_within false l.statements ≡ l.names ++ set_within l.opened (drop l.statement-index l.statements);
}
