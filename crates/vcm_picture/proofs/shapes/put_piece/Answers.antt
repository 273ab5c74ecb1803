use Rattle.vcm_picture.proofs.shapes.put_piece.Goals as goal

pub returns : goal.returns
returns c = simp (c.from.ensures, c.from-2.ensures) at c.put_told.ensures
