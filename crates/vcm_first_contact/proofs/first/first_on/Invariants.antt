use Rattle.vcm_way.specs.Gone.{Gone as Went}
use Rattle.vcm_way.specs.Seen.{IsSameWay, seen}
use Rattle.vcm_first_contact.proofs.Firsts.{IsSoFar}
use Rattle.vcm_first_contact.proofs.first.first_on.Given as goal

abbrev pub invariant-loop-index : goal.invariant-loop-index
invariant-loop-index l = (w : Went) → IsSameWay (seen l.gone) w → IsSoFar l.blocks.blocks w l.boxes l.index l.first
