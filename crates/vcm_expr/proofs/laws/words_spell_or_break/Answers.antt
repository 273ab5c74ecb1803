use Rattle.vcm_expr.proofs.SpellLaws.{spell_or_break}
use Rattle.vcm_expr.proofs.laws.words_spell_or_break.Goals as goal

pub returns : goal.returns
returns c = spell_or_break
