use Rattle.std.proofs.Common.{◌≤◌}
use Rattle.vcm_cover.proofs.held.gather.Given as goal

abbrev pub invariant-loop-place : goal.invariant-loop-place
invariant-loop-place l = l.count ≤ l.place
