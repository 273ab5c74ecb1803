use Rattle.vcm_sheet.proofs.rows.put_more_points.Goals as goal

pub returns : goal.returns
returns c = c.in_ok-put_more.ensures
