use Rattle.vcm_expr.proofs.Whole.{expr_spells, expr_breaks}
use Rattle.vcm_expr.proofs.SpellLaws.{spelled_read}
use Rattle.vcm_expr.proofs.laws.words_are_read_as_the_grammar_says.Goals as goal

pub returns-clause-spelled : goal.returns-clause-spelled
returns-clause-spelled c = expr_spells

pub returns-clause-refused : goal.returns-clause-refused
returns-clause-refused c = expr_breaks

pub returns-clause-read : goal.returns-clause-read
returns-clause-read c = spelled_read
