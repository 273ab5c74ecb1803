use Rattle.std.proofs.Common.{◌≤◌, length}
use Rattle.vcm_diagnosis.proofs.repairs.place_of.Given as goal

abbrev pub invariant-found : goal.invariant-found
invariant-found l = l.place ≤ length l.all

abbrev pub decreases-found : goal.decreases-found
decreases-found l = l.place
