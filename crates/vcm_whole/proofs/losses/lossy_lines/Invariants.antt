use Rattle.std.proofs.Common.{◌≡◌, ◌++◌, drop}
use Rattle.vcm_whole.specs.Losses.{lossy_lines, lossy_from}
use Rattle.vcm_whole.proofs.losses.lossy_lines.Given as goal

abbrev pub invariant-loop-statement : goal.invariant-loop-statement
invariant-loop-statement l = record {
  left : lossy_lines l.statements ≡ l.lines ++ lossy_from l.last (drop l.statement-index l.statements);
}
