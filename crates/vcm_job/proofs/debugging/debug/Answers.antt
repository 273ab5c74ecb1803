use Rattle.std.proofs.Common.{◌∙◌, ap, Err}
use Rattle.std.proofs.lemmas.Result.{err_from_is_err_and}
use Rattle.vcm_job.proofs.DebugLemmas.{debug_unread}
use Rattle.vcm_job.proofs.UnreadLemmas.{unread}
use Rattle.vcm_job.proofs.debugging.debug.Goals as goal

pub returns-in_err-input-clause-fault : goal.returns-in_err-input-clause-fault
returns-in_err-input-clause-fault g c = let p = err_from_is_err_and c.from_residual.result c.from_residual.ensures.1 in rw (p.1, p.2) (debug_unread _ _ _ _ _ _ _ c.in_err-input.ensures.fault)

pub returns-in_err-input-clause-long : goal.returns-in_err-input-clause-long
returns-in_err-input-clause-long g c = let p = err_from_is_err_and c.from_residual.result c.from_residual.ensures.1 in unread _ c.from_residual.result _ (p.1 ∙ ap Err p.2)
