use Rattle.vcm_picture.proofs.shapes.put_tip.Goals as goal

pub returns-in-Touched : goal.returns-in-Touched
returns-in-Touched c = rw c.in-Touched.is (simp c.name_at-name.ensures.name at c.put_touched.ensures)
