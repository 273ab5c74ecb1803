use Rattle.std.proofs.Common.{sym, ◌∙◌}
use Rattle.vcm_why.proofs.hints.write_next_front.Goals as goal

pub returns : goal.returns
returns g c = rw (sym (c.as_bytes-block.ensures.value ∙ c.format.ensures.text)) c.write_pieces.ensures
