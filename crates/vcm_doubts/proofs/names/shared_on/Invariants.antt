use Rattle.std.proofs.Common.{◌≡◌, ◌++◌, drop, false}
use Rattle.vcm_doubts.specs.Doubts.{shared_within}
use Rattle.vcm_doubts.proofs.names.shared_on.Given as goal

abbrev pub invariant-loop-statement : goal.invariant-loop-statement
invariant-loop-statement l = record {
  left : shared_within l.lines false l.statements ≡ l.names ++ shared_within l.lines l.opened (drop l.statement-index l.statements);
}
