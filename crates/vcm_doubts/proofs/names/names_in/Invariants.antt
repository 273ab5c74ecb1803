use Rattle.std.proofs.Common.{◌≡◌, ◌++◌, drop}
use Rattle.vcm_doubts.specs.Doubts.{names_in}
use Rattle.vcm_doubts.proofs.names.names_in.Given as goal

abbrev pub invariant-loop-statement : goal.invariant-loop-statement
invariant-loop-statement l = record {
  left : names_in l.statements ≡ l.names ++ names_in (drop l.statement-index l.statements);
}
