use Rattle.std.proofs.Common.{◌++◌}
use Rattle.vcm_sheet.specs.Content.{filing}
use Rattle.vcm_sheet.specs.Tables.{legend, points_table, blocks_table}
use Rattle.vcm_sheet.specs.Ticks.{has_origin}
use Rattle.vcm_sheet.proofs.Saying.{adds_last}
use Rattle.vcm_sheet.proofs.sheet.put_tables.Goals as goal

pub returns : goal.returns
returns c =
    let f = filing c.args.sheet.now in
    let r = c.put_blocks.result in
    let room = c.args.sizes.room in
    let points = points_table f.held.tables.features f.readings room c.args.points.now in
    let blocks = blocks_table room.names f.block_names in
    adds_last r (legend c.args.used (has_origin c.args.ticks.now)) (points ++ blocks) _ _ _ (rw c.has_origin.ensures at c.in_ok-below.ensures)
    (adds_last r points blocks _ _ _ (rw (c.features-features.ensures, c.tables.ensures) at c.in_ok-at.ensures) c.put_blocks.ensures)
