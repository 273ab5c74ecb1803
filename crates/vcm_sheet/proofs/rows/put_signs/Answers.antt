use Rattle.std.proofs.Common.{◌++◌}
use Rattle.std.specs.Prelude.{codes}
use Rattle.vcm_sheet.specs.Tables.{sign_row, way_signs, mark_signs}
use Rattle.vcm_sheet.proofs.Saying.{adds_last}
use Rattle.vcm_sheet.proofs.rows.put_signs.Goals as goal

pub returns : goal.returns
returns c =
    let marks = mark_signs c.args.used in
    let origin = sign_row c.args.has_origin (codes "X, Y or Z is 0") in
    adds_last c.put_origin.result (way_signs c.args.used) (marks ++ origin) _ _ _ c.in_ok-at.ensures
    (adds_last c.put_origin.result marks origin _ _ _ c.in_ok-at-2.ensures c.put_origin.ensures)
