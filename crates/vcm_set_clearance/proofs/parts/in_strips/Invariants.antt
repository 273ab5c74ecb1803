use Rattle.vcm_motion.specs.contracts.any_part.AnyPartPart.TheImpl.{part-value}
use Rattle.vcm_set_clearance.proofs.Collecting.{StandSoFar}
use Rattle.vcm_set_clearance.proofs.parts.in_strips.Given as goal

abbrev pub invariant-loop-part : goal.invariant-loop-part
invariant-loop-part l = StandSoFar part-value.it l.each l.parts.items l.part-index
