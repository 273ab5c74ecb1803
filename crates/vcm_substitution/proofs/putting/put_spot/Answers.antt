use Rattle.std.proofs.Common.{rules}
use Rattle.vcm_substitution.proofs.putting.put_spot.Goals as goal

pub returns-in_err-x-clause-ok : goal.returns-in_err-x-clause-ok
returns-in_err-x-clause-ok c = search rules

pub returns-in_err-x-clause-small : goal.returns-in_err-x-clause-small
returns-in_err-x-clause-small c = search rules

pub returns-in_err-x-clause-fault : goal.returns-in_err-x-clause-fault
returns-in_err-x-clause-fault c = search rules

pub returns-in_err-y-clause-ok : goal.returns-in_err-y-clause-ok
returns-in_err-y-clause-ok c = search rules

pub returns-in_err-y-clause-small : goal.returns-in_err-y-clause-small
returns-in_err-y-clause-small c = search rules

pub returns-in_err-y-clause-fault : goal.returns-in_err-y-clause-fault
returns-in_err-y-clause-fault c = search rules

pub returns-in_err-z-clause-ok : goal.returns-in_err-z-clause-ok
returns-in_err-z-clause-ok c = search rules

pub returns-in_err-z-clause-small : goal.returns-in_err-z-clause-small
returns-in_err-z-clause-small c = search rules

pub returns-in_err-z-clause-fault : goal.returns-in_err-z-clause-fault
returns-in_err-z-clause-fault c = search rules

pub returns-clause-ok : goal.returns-clause-ok
returns-clause-ok c = search rules

pub returns-clause-small : goal.returns-clause-small
returns-clause-small c = search rules

pub returns-clause-fault : goal.returns-clause-fault
returns-clause-fault c = search rules
