use Rattle.std.proofs.Common.{◌≡◌, length, ◌-◌}
use Rattle.std.specs.Prelude.{All}
use Rattle.vcm_debug.specs.inner.Going.{begun}
use Rattle.vcm_debug.proofs.Stepping.{HasCome}
use Rattle.vcm_debug.proofs.forward.run_on.Given as goal

abbrev pub invariant-loop-done : goal.invariant-loop-done
invariant-loop-done g l = record {
  come : HasCome l.breakpoints l.watches l.k l.fn.machine l.machine l.done;
  room : length l.before.items ≡ length l.fn.machine.code.tables.variables;
  kept : All (λ c. c.machine ≡ begun l.fn.machine c.count) l.checkpoints.kept.items;
}

abbrev pub decreases-loop-done : goal.decreases-loop-done
decreases-loop-done g l = l.k - l.done
