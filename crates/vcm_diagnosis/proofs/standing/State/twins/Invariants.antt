use Rattle.std.proofs.Common.{length}
use Rattle.vcm_diagnosis.proofs.standing.State.twins.Given as goal

abbrev pub decreases-each : goal.decreases-each
decreases-each l = length l.rest
