use Rattle.std.proofs.Common.{◌-◌, length}
use Rattle.vcm_syntax.proofs.Shifting.{AreShifted}
use Rattle.vcm_syntax.proofs.offsets.offsets.Given as goal

abbrev pub invariant-shifts : goal.invariant-shifts
invariant-shifts l = AreShifted l.fields l.place l.offsets

abbrev pub decreases-shifts : goal.decreases-shifts
decreases-shifts l = length l.fields - l.place
