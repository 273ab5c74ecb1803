use Rattle.std.proofs.Common.{sym, ◌∙◌}
use Rattle.vcm_contacts.proofs.writing.write_some.Goals as goal

pub returns : goal.returns
returns g c =
    rw (sym (c.as_bytes-number.ensures.value ∙ c.format.ensures.text), sym (c.as_bytes-place.ensures.value ∙ c.format-2.ensures.text), sym c.contacts_word-word.ensures) c.write_pieces.ensures
