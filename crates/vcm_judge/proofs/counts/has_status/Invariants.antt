use Rattle.std.proofs.Common.{◌≡◌, drop}
use Rattle.vcm_judge.specs.Counting.{has_status}
use Rattle.vcm_judge.proofs.counts.has_status.Given as goal

abbrev pub invariant-loop-outcome : goal.invariant-loop-outcome
invariant-loop-outcome l = has_status l.status (drop l.outcome-index l.outcomes) ≡ has_status l.status l.outcomes
