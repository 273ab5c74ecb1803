use Rattle.vcm_sheet.proofs.Listed.{numbered_more}
use Rattle.vcm_sheet.proofs.numbers.number_points.Goals as goal

pub loop-point-preserved : goal.loop-point-preserved
loop-point-preserved c = record {
  numbers = numbered_more c.args.scope c.args.points.now c.loop-point.point-index _ _ _ _ c.loop-point-test.true c.in_ok-number_point.ensures c.loop-point.invariant.numbers;
}
