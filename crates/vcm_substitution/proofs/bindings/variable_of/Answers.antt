use Rattle.std.proofs.Common.{rules}
use Rattle.vcm_substitution.proofs.bindings.variable_of.Goals as goal

pub returns : goal.returns
returns c = search rules
