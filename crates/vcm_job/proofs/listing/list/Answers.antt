use Rattle.std.proofs.Common.{◌∙◌, ap, Err}
use Rattle.std.proofs.lemmas.Result.{err_from_is_err_and}
use Rattle.vcm_job.proofs.UnreadLemmas.{none_written, unread}
use Rattle.vcm_job.proofs.ListLemmas.{list_cut_off, not_listed}
use Rattle.vcm_job.proofs.listing.list.Goals as goal

pub returns-clause-fault : goal.returns-clause-fault
returns-clause-fault g c =
    let listed = c.in_ok-text.ensures.listed in
    let front = rw c.deref.ensures.value at c.in-Err.ensures in
    list_cut_off _ _ c.in_ok-input.ensures.all _ _ listed _ _ front

pub returns-in_err-input-clause-fault : goal.returns-in_err-input-clause-fault
returns-in_err-input-clause-fault g c = let p = err_from_is_err_and c.from_residual.result c.from_residual.ensures.1 in rw (p.1, p.2) (none_written _ _ _ _ _ _ _ c.in_err-input.ensures.fault)

pub returns-in_err-input-clause-long : goal.returns-in_err-input-clause-long
returns-in_err-input-clause-long g c = let p = err_from_is_err_and c.from_residual.result c.from_residual.ensures.1 in unread _ c.from_residual.result _ (p.1 ∙ ap Err p.2)

pub returns-in_err-text-clause-fault : goal.returns-in_err-text-clause-fault
returns-in_err-text-clause-fault g c =
    let p = err_from_is_err_and c.from_residual-in_err-text.result c.from_residual-in_err-text.ensures.1 in
    let refused = c.in_err-text.ensures.refused in
    rw (p.1, p.2) (not_listed _ _ _ _ _ c.in_ok-input.ensures.all refused)
