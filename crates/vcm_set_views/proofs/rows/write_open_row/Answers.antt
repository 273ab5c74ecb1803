use Rattle.vcm_set_views.proofs.rows.write_open_row.Goals as goal

pub returns : goal.returns
returns g c = rw c.line-line.ensures.1 (rw c.line-line.ensures.2 at c.write_open.ensures)
