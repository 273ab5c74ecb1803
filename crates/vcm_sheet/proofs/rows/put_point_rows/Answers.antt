use Rattle.vcm_sheet.specs.Tables.{point_row}
use Rattle.vcm_sheet.proofs.Saying.{row_more, all_rows}
use Rattle.vcm_sheet.proofs.rows.put_point_rows.Goals as goal

pub loop-point-preserved : goal.loop-point-preserved
loop-point-preserved c = record {
  rows = row_more (point_row c.args.features.now c.args.readings.now) c.args.points.now c.loop-point.point-index _ _ _ _ c.loop-point-test.true
      c.loop-point.invariant.rows c.in_ok-put_point.ensures;
}

pub returns : goal.returns
returns c =
    all_rows (point_row c.args.features.now c.args.readings.now) c.args.points.now c.loop-point.point-index _ _ c.loop-point-test.false
    c.loop-point.invariant.rows
