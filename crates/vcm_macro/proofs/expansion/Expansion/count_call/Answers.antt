use Rattle.std.proofs.Common.{rules}
use Rattle.vcm_macro.proofs.expansion.Expansion.count_call.Goals as goal

pub returns-clause-room : goal.returns-clause-room
returns-clause-room c = search rules

pub returns-clause-shallow : goal.returns-clause-shallow
returns-clause-shallow c = search rules
