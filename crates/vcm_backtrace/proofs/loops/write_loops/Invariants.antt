use Rattle.std.proofs.Common.{◌≤◌}
use Rattle.vcm_print.proofs.Steps.{TookUpTo}
use Rattle.vcm_backtrace.specs.Loops.{loop_lines}
use Rattle.vcm_backtrace.proofs.loops.write_loops.Given as goal

abbrev pub invariant-loop-index : goal.invariant-loop-index
invariant-loop-index g l = record {
  within : l.index ≤ l.number;
  took : TookUpTo (g.W.Write.contents l.fn.writer) (g.W.Write.contents l.writer)
      (loop_lines l.standing.tables.now l.standing.variables.now l.standing.rounds.now l.number l.loaded.statements l.index)
      (loop_lines l.standing.tables.now l.standing.variables.now l.standing.rounds.now l.number l.loaded.statements l.number);
}

abbrev pub decreases-loop-index : goal.decreases-loop-index
decreases-loop-index g l = l.index
