use Rattle.std.proofs.Common.{◌≡◌, length}
use Rattle.vcm_macro.specs.Rules.{has_twins}
use Rattle.vcm_macro.proofs.parameters.has_twins.Given as goal

abbrev pub invariant-each : goal.invariant-each
invariant-each l = has_twins l.fn.parameters ≡ has_twins l.rest

abbrev pub decreases-each : goal.decreases-each
decreases-each l = length l.rest
