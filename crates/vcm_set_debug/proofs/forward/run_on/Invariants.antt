use Rattle.std.proofs.Common.{◌≡◌, length, ◌-◌}
use Rattle.vcm_set_debug.proofs.Stepping.{HasCome}
use Rattle.vcm_set_debug.proofs.forward.run_on.Given as goal

abbrev pub invariant-loop-done : goal.invariant-loop-done
invariant-loop-done g l = record {
  come : HasCome l.breakpoints l.watches l.k l.fn.course l.course l.done;
  room : length l.before.items ≡ length l.fn.course.code.tables.variables;
}

abbrev pub decreases-loop-done : goal.decreases-loop-done
decreases-loop-done g l = l.k - l.done
