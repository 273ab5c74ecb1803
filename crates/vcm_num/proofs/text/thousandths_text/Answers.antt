use Rattle.std.proofs.Common.{rules}
use Rattle.vcm_num.proofs.text.thousandths_text.Goals as goal

pub returns-then-value-lt0 : goal.returns-then-value-lt0
returns-then-value-lt0 c = search rules
