use Rattle.std.proofs.Common.{rules}
use Rattle.vcm_substitution.proofs.putting.put_feature.Goals as goal

pub returns-in_err-place-clause-ok : goal.returns-in_err-place-clause-ok
returns-in_err-place-clause-ok c = search rules

pub returns-in_err-place-clause-small : goal.returns-in_err-place-clause-small
returns-in_err-place-clause-small c = search rules

pub returns-in_err-place-clause-fault : goal.returns-in_err-place-clause-fault
returns-in_err-place-clause-fault c = search rules

pub returns-clause-ok : goal.returns-clause-ok
returns-clause-ok c = search rules

pub returns-clause-small : goal.returns-clause-small
returns-clause-small c = search rules

pub returns-clause-fault : goal.returns-clause-fault
returns-clause-fault c = search rules
