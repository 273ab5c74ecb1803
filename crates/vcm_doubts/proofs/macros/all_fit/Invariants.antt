use Rattle.std.proofs.Common.{◌≡◌, length}
use Rattle.vcm_doubts.specs.Settled.{all_fit}
use Rattle.vcm_doubts.proofs.macros.all_fit.Given as goal

abbrev pub invariant-each : goal.invariant-each
invariant-each l = all_fit l.changed l.parameters l.fn.arguments ≡ all_fit l.changed l.rest l.arguments

abbrev pub decreases-each : goal.decreases-each
decreases-each l = length l.rest
