use Rattle.std.proofs.Common.{◌-◌}
use Rattle.vcm_steps.proofs.PassageLemmas.{IsFollowed}
use Rattle.vcm_steps.proofs.following.follow_run.Given as goal

abbrev pub invariant-loop-done : goal.invariant-loop-done
invariant-loop-done g l = IsFollowed l.fn.machine.part l.loaded l.steps l.machine l.done (λ ps. g.F.Follows.Has l.by l.loaded.tables l.fn.to l.to ps)

abbrev pub decreases-loop-done : goal.decreases-loop-done
decreases-loop-done g l = l.steps - l.done
