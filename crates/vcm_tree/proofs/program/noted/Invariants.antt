use Rattle.std.proofs.Common.{◌≡◌, ◌++◌, drop}
use Rattle.vcm_tree.specs.Program.{notices_of}
use Rattle.vcm_tree.proofs.program.noted.Given as goal

abbrev pub invariant-loop-statement : goal.invariant-loop-statement
invariant-loop-statement l = record {
  left : notices_of l.written ≡ l.notices.items ++ notices_of (drop l.statement-index l.written);
}
