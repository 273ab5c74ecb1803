use Rattle.std.proofs.Common.{◌-◌, ◌≤◌}
use Rattle.vcm_console.proofs.LinesRead.{HasReadOf}
use Rattle.vcm_console.proofs.reading.read_line.Given as goal

abbrev pub invariant-loop-used : goal.invariant-loop-used
invariant-loop-used g l = record {
  within : l.used ≤ l.left;
  bytes : HasReadOf (g.R.Read.remaining l.fn.reader) (g.R.Read.remaining l.reader) l.kept l.used;
}

abbrev pub decreases-loop-used : goal.decreases-loop-used
decreases-loop-used g l = l.left - l.used
