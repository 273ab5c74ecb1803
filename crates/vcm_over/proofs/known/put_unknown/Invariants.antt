use Rattle.std.proofs.Common.{◌≡◌, ◌++◌, length}
use Rattle.vcm_over.specs.Known.{unknown_text}
use Rattle.vcm_over.proofs.known.put_unknown.Given as goal

abbrev pub invariant-each : goal.invariant-each
invariant-each l = l.fn.out.items ++ unknown_text l.epoch l.fn.known l.fn.variables ≡ l.out.items ++ unknown_text l.epoch l.known l.variables

abbrev pub decreases-each : goal.decreases-each
decreases-each l = length l.variables
