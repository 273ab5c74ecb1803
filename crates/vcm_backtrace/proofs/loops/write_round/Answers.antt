use Rattle.std.proofs.Common.{sym, ◌∙◌}
use Rattle.vcm_backtrace.proofs.loops.write_round.Goals as goal

pub returns : goal.returns
returns g c = rw (sym (c.as_bytes-round.ensures.value ∙ c.format.ensures.text), sym (c.as_bytes-line.ensures.value ∙ c.format-2.ensures.text)) c.write_pieces.ensures
