use Rattle.std.proofs.Common.{◌≡◌, ◌++◌, ◌≤◌, drop}
use Rattle.vcm_kept.specs.Put.{remarks_from}
use Rattle.vcm_kept.proofs.put.remarks_of.Given as goal

abbrev pub invariant-loop-statement : goal.invariant-loop-statement
invariant-loop-statement l = record {
  small : l.number ≤ l.statement-index;
  left : remarks_from 0 l.statements ≡ l.remarks.items ++ remarks_from l.number (drop l.statement-index l.statements);
}
