use Rattle.std.proofs.Common.{rules}
use Rattle.vcm_substitution.proofs.putting.copied_names.Goals as goal

pub loop-name-init : goal.loop-name-init
loop-name-init c = search rules

pub returns-in_err-push-clause-ok : goal.returns-in_err-push-clause-ok
returns-in_err-push-clause-ok c = search rules

pub returns-in_err-push-clause-fault : goal.returns-in_err-push-clause-fault
returns-in_err-push-clause-fault c = search rules

pub returns-clause-fault : goal.returns-clause-fault
returns-clause-fault c = search rules
