use Rattle.vcm_trace.proofs.points.write_machine_place.Goals as goal

pub returns-in-Ok : goal.returns-in-Ok
returns-in-Ok g c = rw c.in-Ok.ensures.answer c.write_place.ensures

pub returns-in-Err : goal.returns-in-Err
returns-in-Err g c = rw c.in-Err.ensures.answer c.write_all.ensures
