use Rattle.vcm_set_debug.proofs.telling.write_probe.Goals as goal

pub returns-in-None : goal.returns-in-None
returns-in-None g c = rw c.in-None.is c.write_all.ensures
