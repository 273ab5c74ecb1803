use Rattle.vcm_sheet.proofs.rows.put_head_if.Goals as goal

pub returns : goal.returns
returns c = rw c.if-not-is_first.false c.put_points_head.ensures
