use Rattle.vcm_picture.proofs.shapes.put_touched.Goals as goal

pub returns : goal.returns
returns c = simp (c.from.ensures, c.from-2.ensures) at c.put_told.ensures
