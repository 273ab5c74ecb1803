use Rattle.vcm_svg.proofs.heading.put_left_out_line.Goals as goal

pub returns : goal.returns
returns c = rw c.heading_label.ensures at c.put_text.ensures
