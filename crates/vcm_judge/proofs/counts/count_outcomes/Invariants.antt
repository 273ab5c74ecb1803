use Rattle.std.proofs.Common.{◌≡◌, drop}
use Rattle.vcm_judge.specs.Counting.{nothing_counted, counts_of}
use Rattle.vcm_judge.proofs.counts.count_outcomes.Given as goal

abbrev pub invariant-loop-outcome : goal.invariant-loop-outcome
invariant-loop-outcome l = counts_of l.counts (drop l.outcome-index l.outcomes) ≡ counts_of nothing_counted l.outcomes
