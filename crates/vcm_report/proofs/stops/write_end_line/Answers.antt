use Rattle.vcm_report.proofs.stops.write_end_line.Goals as goal

pub returns-in-None : goal.returns-in-None
returns-in-None g c = rw c.in-None.is c.write_no_stop.ensures
