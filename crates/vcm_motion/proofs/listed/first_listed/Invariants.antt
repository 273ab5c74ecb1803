use Rattle.vcm_num.specs.Point.{coordinate}
use Rattle.vcm_spec.specs.Contact.{TipMeets}
use Rattle.vcm_motion.proofs.Search.{IsSoFar}
use Rattle.vcm_motion.specs.inner.Listed.{IsListed}
use Rattle.vcm_motion.proofs.listed.first_listed.Given as goal

abbrev pub invariant-loop-number : goal.invariant-loop-number
invariant-loop-number l = IsSoFar l.blocks (TipMeets l.tip (coordinate l.from) (coordinate l.to)) (IsListed l.listed 0 l.number-index) l.first
