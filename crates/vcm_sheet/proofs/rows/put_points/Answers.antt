use Rattle.std.proofs.Common.{length, take}
use Rattle.std.specs.Prelude.{flat_map, codes}
use Rattle.vcm_sheet.specs.Tables.{heads_before, point_row, more_rows}
use Rattle.vcm_sheet.proofs.Saying.{adds_three}
use Rattle.vcm_sheet.proofs.rows.put_points.Goals as goal

pub returns : goal.returns
returns c =
    let points = c.args.points.now in
    let shown = take c.args.room.points points in
    adds_three (heads_before c.args.room.rows (length shown)) (flat_map (point_row c.args.features.now c.args.readings.now) shown)
    (more_rows c.args.room.points (length points) (codes " more points")) _ _ _ _ (rw c.first_rows-shown.ensures at c.in_ok-put_heads.ensures)
    (rw c.first_rows-shown.ensures at c.in_ok-put_point_rows.ensures) c.in_ok-put_more_points.ensures
