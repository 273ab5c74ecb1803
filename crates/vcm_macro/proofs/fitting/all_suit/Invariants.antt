use Rattle.std.proofs.Common.{◌≡◌, length}
use Rattle.vcm_macro.specs.inner.Suiting.{all_suit}
use Rattle.vcm_macro.proofs.fitting.all_suit.Given as goal

abbrev pub invariant-each : goal.invariant-each
invariant-each l = all_suit l.all l.fn.arguments ≡ all_suit l.rest l.arguments

abbrev pub decreases-each : goal.decreases-each
decreases-each l = length l.rest
