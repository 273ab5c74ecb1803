use Rattle.std.proofs.Common.{sym, ◌∙◌}
use Rattle.vcm_report.proofs.stops.write_no_stop.Goals as goal

pub returns : goal.returns
returns g c = rw (sym (c.as_bytes-steps.ensures.value ∙ c.format.ensures.text)) c.write_pieces.ensures
