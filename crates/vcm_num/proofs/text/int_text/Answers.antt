use Rattle.std.proofs.Common.{arith}
use Rattle.std.proofs.lemmas.Grind.{common_steps}
use Rattle.vcm_num.proofs.text.int_text.Goals as goal

pub returns : goal.returns
returns c = grind (arith, common_steps)
