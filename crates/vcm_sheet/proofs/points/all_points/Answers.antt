use Rattle.vcm_sheet.proofs.Listed.{pointed_more}
use Rattle.vcm_sheet.proofs.points.all_points.Goals as goal

pub loop-placed-preserved : goal.loop-placed-preserved
loop-placed-preserved c = record {
  points = pointed_more c.args.marks.now c.loop-placed.placed-index _ _ _ _ c.loop-placed-test.true c.in_ok-push_point.ensures c.loop-placed.invariant.points;
}
