use Rattle.std.proofs.Common.{arith}
use Rattle.std.proofs.lemmas.Grind.{common_steps}
use Rattle.vcm_substitution.proofs.bindings.Bindings.is_empty.Goals as goal

pub returns : goal.returns
returns c = grind (arith, common_steps)
