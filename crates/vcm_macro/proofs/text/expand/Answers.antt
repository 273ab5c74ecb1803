use Rattle.std.proofs.Common.{rules}
use Rattle.vcm_macro.proofs.text.expand.Goals as goal

pub returns-clause-ok : goal.returns-clause-ok
returns-clause-ok c = search rules

pub returns-clause-fault : goal.returns-clause-fault
returns-clause-fault c = search rules
