use Rattle.std.proofs.Common.{rules}
use Rattle.vcm_substitution.proofs.bindings.Bindings.put_argument.Goals as goal

pub returns-in-None-value-clause-ok : goal.returns-in-None-value-clause-ok
returns-in-None-value-clause-ok c = search rules

pub returns-in_ok-value-in-Some-value-clause-ok : goal.returns-in_ok-value-in-Some-value-clause-ok
returns-in_ok-value-in-Some-value-clause-ok c = search rules
