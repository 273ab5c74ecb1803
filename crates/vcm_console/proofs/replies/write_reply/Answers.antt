use Rattle.std.proofs.Common.{sym, ◌∙◌}
use Rattle.vcm_console.proofs.replies.write_reply.Goals as goal

pub returns-in-Found : goal.returns-in-Found
returns-in-Found g c =
    rw (c.in-Found.is, sym (c.as_bytes-line.ensures.value ∙ c.format-in-Found.ensures.text), sym (c.as_bytes-number-in-Found.ensures.value ∙ c.format-in-Found-2.ensures.text))
    c.write_pieces-in-Found.ensures
