use Rattle.vcm_why.proofs.hints.write_travel.Goals as goal

pub returns-in-Way : goal.returns-in-Way
returns-in-Way g c = rw c.in-Way.is (rw c.bounds-bounds.ensures.bounds at c.write_limits.ensures)
