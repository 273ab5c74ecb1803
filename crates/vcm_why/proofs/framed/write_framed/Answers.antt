use Rattle.std.proofs.Common.{sym, ◌∙◌}
use Rattle.vcm_why.proofs.framed.write_framed.Goals as goal

pub returns : goal.returns
returns g c = rw (sym (c.as_bytes-line.ensures.value ∙ c.format.ensures.text)) c.write_pieces.ensures
