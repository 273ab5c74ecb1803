use Rattle.std.proofs.Common.{◌-◌}
use Rattle.vcm_set_debug.proofs.Stepping.{HasWalked}
use Rattle.vcm_set_debug.proofs.forward.step_on.Given as goal

abbrev pub invariant-loop-done : goal.invariant-loop-done
invariant-loop-done g l = HasWalked l.k l.fn.course l.course l.done

abbrev pub decreases-loop-done : goal.decreases-loop-done
decreases-loop-done g l = l.k - l.done
