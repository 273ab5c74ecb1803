use Rattle.std.proofs.Common.{sym, ◌∙◌}
use Rattle.vcm_code.specs.Shape.{all_words}
use Rattle.vcm_fields.proofs.WordBytes.{word_read, word_unread}
use Rattle.vcm_fields.proofs.tags.word_with.Goals as goal

pub returns-in-Some : goal.returns-in-Some
returns-in-Some c = λ rest. word_read c.args.number all_words rest c.in-Some.word (sym c.in-Some.is ∙ c.word_with.ensures)

pub returns-in-None : goal.returns-in-None
returns-in-None c = λ rest. word_unread c.args.number all_words rest (sym c.in-None.is ∙ c.word_with.ensures)
