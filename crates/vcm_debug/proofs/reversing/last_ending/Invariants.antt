use Rattle.std.proofs.Common.{◌≡◌, ◌+◌, ◌-◌, ◌≤◌, length}
use Rattle.vcm_debug.specs.inner.Going.{begun}
use Rattle.vcm_debug.specs.inner.Backwards.{ended, last_between}
use Rattle.vcm_debug.proofs.reversing.last_ending.Given as goal

abbrev pub invariant-loop-done : goal.invariant-loop-done
invariant-loop-done g l = record {
  at : l.machine ≡ begun l.fn.machine (l.low + l.done);
  within : l.done ≤ l.most;
  found : ended l.found ≡ last_between l.breakpoints l.watches (begun l.fn.machine 0) l.low l.done;
  room : length l.before.items ≡ length l.fn.machine.code.tables.variables;
}

abbrev pub decreases-loop-done : goal.decreases-loop-done
decreases-loop-done g l = l.most - l.done
