use Rattle.std.proofs.Common.{◌≡◌, ◌≤◌, length, drop}
use Rattle.vcm_untried.specs.inner.Following.{tabled}
use Rattle.vcm_untried.proofs.counting.table_of.Given as goal

abbrev pub invariant-loop-at : goal.invariant-loop-at
invariant-loop-at l = record {
  within : l.at ≤ length l.remarks;
  table : l.table.items ≡ tabled (drop l.at l.remarks) l.statements;
}

abbrev pub decreases-loop-at : goal.decreases-loop-at
decreases-loop-at l = l.at
