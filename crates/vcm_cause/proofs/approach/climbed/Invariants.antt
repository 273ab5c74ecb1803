use Rattle.std.proofs.Common.{◌≡◌, drop}
use Rattle.vcm_cause.specs.Approach.{climbed}
use Rattle.vcm_cause.proofs.approach.climbed.Given as goal

abbrev pub invariant-loop-step : goal.invariant-loop-step
invariant-loop-step l = climbed l.tip l.block l.way l.low (drop l.step-index l.steps) ≡ climbed l.tip l.block l.way 1 l.steps
