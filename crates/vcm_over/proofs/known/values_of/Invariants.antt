use Rattle.std.proofs.Common.{◌≡◌, ◌++◌, length}
use Rattle.vcm_over.specs.Known.{values_of}
use Rattle.vcm_over.proofs.known.values_of.Given as goal

abbrev pub invariant-each : goal.invariant-each
invariant-each l = values_of l.name l.fn.variables l.fn.values ≡ l.found ++ values_of l.name l.variables l.values

abbrev pub decreases-each : goal.decreases-each
decreases-each l = length l.variables
