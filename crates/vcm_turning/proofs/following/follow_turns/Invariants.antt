use Rattle.std.proofs.Common.{◌-◌}
use Rattle.vcm_turning.proofs.Followed.{IsFollowed}
use Rattle.vcm_turning.proofs.following.follow_turns.Given as goal

abbrev pub invariant-loop-done : goal.invariant-loop-done
invariant-loop-done g l =
    IsFollowed l.fn.machine.part l.fn.machine.probes l.fn.machine.variable l.loaded l.steps l.machine l.done
    (λ ss. g.F.FollowsTurns.Has l.by l.loaded.tables l.fn.to l.to ss)

abbrev pub decreases-loop-done : goal.decreases-loop-done
decreases-loop-done g l = l.steps - l.done
