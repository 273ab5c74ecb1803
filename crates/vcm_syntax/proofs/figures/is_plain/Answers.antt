use Rattle.std.proofs.Common.{rules}
use Rattle.vcm_syntax.proofs.figures.is_plain.Goals as goal

pub returns-in-Thousandths : goal.returns-in-Thousandths
returns-in-Thousandths c = search rules
