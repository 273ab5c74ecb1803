use Rattle.std.proofs.Common.{rules}
use Rattle.vcm_macro.proofs.expansion.Expansion.count_statement.Goals as goal

pub invariant_of-self : goal.invariant_of-self
invariant_of-self c = search rules

pub returns-clause-room : goal.returns-clause-room
returns-clause-room c = search rules
