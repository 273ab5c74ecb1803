use Rattle.vcm_set_debug.proofs.serving.write_answer.Goals as goal

pub returns-in-Err : goal.returns-in-Err
returns-in-Err g c = rw c.in-Err.is c.write_halted.ensures
