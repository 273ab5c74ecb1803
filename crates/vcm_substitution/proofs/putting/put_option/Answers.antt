use Rattle.std.proofs.Common.{rules}
use Rattle.vcm_substitution.proofs.putting.put_option.Goals as goal

pub returns-in_err-put-in-Some-clause-ok : goal.returns-in_err-put-in-Some-clause-ok
returns-in_err-put-in-Some-clause-ok c = search rules

pub returns-in_err-put-in-Some-clause-small : goal.returns-in_err-put-in-Some-clause-small
returns-in_err-put-in-Some-clause-small c = search rules

pub returns-in_err-put-in-Some-clause-fault : goal.returns-in_err-put-in-Some-clause-fault
returns-in_err-put-in-Some-clause-fault c = search rules

pub returns-in-None-clause-ok : goal.returns-in-None-clause-ok
returns-in-None-clause-ok c = search rules

pub returns-in-None-clause-small : goal.returns-in-None-clause-small
returns-in-None-clause-small c = search rules

pub returns-in-None-clause-fault : goal.returns-in-None-clause-fault
returns-in-None-clause-fault c = search rules

pub returns-in_ok-put-in-Some-clause-ok : goal.returns-in_ok-put-in-Some-clause-ok
returns-in_ok-put-in-Some-clause-ok c = search rules

pub returns-in_ok-put-in-Some-clause-small : goal.returns-in_ok-put-in-Some-clause-small
returns-in_ok-put-in-Some-clause-small c = search rules

pub returns-in_ok-put-in-Some-clause-fault : goal.returns-in_ok-put-in-Some-clause-fault
returns-in_ok-put-in-Some-clause-fault c = search rules
