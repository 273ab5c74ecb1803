use Rattle.vcm_why.proofs.stops.write_where.Goals as goal

pub returns-in-None : goal.returns-in-None
returns-in-None g c = rw c.in-None.is c.write_all.ensures
