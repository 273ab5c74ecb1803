use Rattle.vcm_sheet.proofs.Saying.{adds_row}
use Rattle.vcm_sheet.proofs.rows.put_sign.Goals as goal

pub returns : goal.returns
returns c =
    let h = c.if-not-is_drawn.false in
    rw h (adds_row c.corner.result c.args.unit (0, c.args.class, c.args.sign, c.args.words.now) _ _ c.in_ok-put_row.ensures)
