use Rattle.std.proofs.Common.{rules, ◌∙◌, ap, Err}
use Rattle.std.proofs.lemmas.Result.{err_from_is_err_and}
use Rattle.vcm_job.proofs.UnreadLemmas.{none_given, unread}
use Rattle.vcm_job.proofs.parts.part_from.Goals as goal

pub returns-in_err-file-clause-fault : goal.returns-in_err-file-clause-fault
returns-in_err-file-clause-fault g c = let p = err_from_is_err_and c.from_residual.result c.from_residual.ensures.1 in rw (p.1, p.2) (none_given _ _ _ _ c.in_err-file.ensures.fault)

pub returns-in_err-file-clause-long : goal.returns-in_err-file-clause-long
returns-in_err-file-clause-long g c = let p = err_from_is_err_and c.from_residual.result c.from_residual.ensures.1 in unread _ c.from_residual.result _ (p.1 ∙ ap Err p.2)

pub returns-clause-fault : goal.returns-clause-fault
returns-clause-fault g c = search rules
