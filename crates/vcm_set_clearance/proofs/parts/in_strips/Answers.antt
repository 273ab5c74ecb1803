use Rattle.std.proofs.Common.{sym}
use Rattle.vcm_motion.specs.contracts.any_part.AnyPartPart.TheImpl.{part-value}
use Rattle.vcm_set_clearance.proofs.Collecting.{StandSoFar, one_stands, all_stand}
use Rattle.vcm_set_clearance.proofs.parts.in_strips.Goals as goal

pub loop-part-preserved : goal.loop-part-preserved
loop-part-preserved c =
    rw c.in_ok-push.ensures.items
    (one_stands part-value.it c.args.each.now c.loop-part.parts.items c.loop-part.part-index c.part-item.result _ c.loop-part-test.true (sym c.part-item.is)
    c.in_ok-of.ensures.meaning c.loop-part.invariant)

pub returns : goal.returns
returns c = all_stand part-value.it c.args.each.now c.loop-part.parts.items c.loop-part.part-index c.loop-part-test.false c.loop-part.invariant
