use Rattle.std.proofs.Common.{rules}
use Rattle.vcm_expr.proofs.expression.Expr.pieces.Goals as goal

pub returns-in-One-clause-parts : goal.returns-in-One-clause-parts
returns-in-One-clause-parts c = search rules
