use Rattle.vcm_expr.proofs.SpellLaws.{one_expression}
use Rattle.vcm_expr.proofs.laws.symbols_spell_one_expression.Goals as goal

pub returns : goal.returns
returns c = one_expression
