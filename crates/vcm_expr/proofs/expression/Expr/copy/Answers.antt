use Rattle.std.proofs.Common.{rules}
use Rattle.vcm_expr.proofs.expression.Expr.copy.Goals as goal

pub invariant_of-result : goal.invariant_of-result
invariant_of-result c = search rules

pub returns-clause-ok : goal.returns-clause-ok
returns-clause-ok c = search rules
