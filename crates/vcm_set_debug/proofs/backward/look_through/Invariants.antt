use Rattle.std.proofs.Common.{◌≡◌, ◌-◌, ◌≤◌, length}
use Rattle.vcm_set_debug.specs.Halting.{reason_behind, last_end}
use Rattle.vcm_set_debug.specs.Reached.{behind}
use Rattle.vcm_set_debug.specs.inner.Going.{ended}
use Rattle.vcm_set_debug.proofs.backward.look_through.Given as goal

abbrev pub invariant-loop-done : goal.invariant-loop-done
invariant-loop-done g l = record {
  at : l.course ≡ behind l.fn.course l.done;
  within : l.done ≤ l.most;
  found : ended l.found ≡ last_end (reason_behind l.breakpoints l.watches l.fn.course) l.done;
  room : length l.before.items ≡ length l.fn.course.code.tables.variables;
}

abbrev pub decreases-loop-done : goal.decreases-loop-done
decreases-loop-done g l = l.most - l.done
