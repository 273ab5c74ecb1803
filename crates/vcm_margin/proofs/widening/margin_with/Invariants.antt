use Rattle.std.proofs.Common.{◌-◌}
use Rattle.vcm_margin.specs.inner.Widening.{IsBetween}
use Rattle.vcm_margin.proofs.widening.margin_with.Given as goal

abbrev pub invariant-loop-beyond : goal.invariant-loop-beyond
invariant-loop-beyond g l = IsBetween l.part l.loaded l.steps l.tip l.beyond l.found

abbrev pub decreases-loop-beyond : goal.decreases-loop-beyond
decreases-loop-beyond g l = l.beyond - l.tip
