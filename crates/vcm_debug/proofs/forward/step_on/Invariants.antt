use Rattle.std.proofs.Common.{◌≡◌, ◌-◌}
use Rattle.std.specs.Prelude.{All}
use Rattle.vcm_debug.specs.inner.Going.{begun}
use Rattle.vcm_debug.proofs.Coming.{HasGone}
use Rattle.vcm_debug.proofs.forward.step_on.Given as goal

abbrev pub invariant-loop-done : goal.invariant-loop-done
invariant-loop-done g l = record {
  gone : HasGone l.k l.fn.machine l.machine l.done;
  kept : All (λ c. c.machine ≡ begun l.fn.machine c.count) l.checkpoints.kept.items;
}

abbrev pub decreases-loop-done : goal.decreases-loop-done
decreases-loop-done g l = l.k - l.done
