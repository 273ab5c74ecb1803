use Rattle.std.proofs.Common.{◌≡◌, length}
use Rattle.vcm_adapt.specs.Marks.{has_sign}
use Rattle.vcm_adapt.proofs.edit.has_sign.Given as goal

abbrev pub invariant-signs : goal.invariant-signs
invariant-signs l = has_sign l.rest ≡ has_sign l.bytes

abbrev pub decreases-signs : goal.decreases-signs
decreases-signs l = length l.rest
