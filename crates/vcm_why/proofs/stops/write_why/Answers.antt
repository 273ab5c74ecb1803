use Rattle.std.proofs.Common.{sym, ◌∙◌}
use Rattle.vcm_why.proofs.stops.write_why.Goals as goal

pub returns-in-None : goal.returns-in-None
returns-in-None g c = rw (sym c.stop.ensures ∙ c.in-None.is) c.write_no_stop.ensures
