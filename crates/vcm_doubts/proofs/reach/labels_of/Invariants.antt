use Rattle.std.proofs.Common.{◌≡◌, ◌++◌, drop}
use Rattle.vcm_doubts.specs.Doubts.{marked_from, outermost}
use Rattle.vcm_doubts.proofs.reach.labels_of.Given as goal

abbrev pub invariant-loop-statement : goal.invariant-loop-statement
invariant-loop-statement l = record {
  left : marked_from outermost l.statements ≡ l.labels ++ marked_from l.blocks.items (drop l.statement-index l.statements);
}
