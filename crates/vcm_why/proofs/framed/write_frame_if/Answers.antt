use Rattle.vcm_why.proofs.framed.write_frame_if.Goals as goal

pub returns-then-is_told : goal.returns-then-is_told
returns-then-is_told g c = rw c.if-is_told.true c.write_frame_line.ensures
