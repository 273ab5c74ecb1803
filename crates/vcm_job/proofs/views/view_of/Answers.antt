use Rattle.std.proofs.Common.{◌∙◌, ap, Err}
use Rattle.std.proofs.lemmas.Result.{err_from_is_err_and}
use Rattle.vcm_job.proofs.UnreadLemmas.{none_written, given_of, unread}
use Rattle.vcm_job.specs.Views.{IsShown}
use Rattle.vcm_job.proofs.ViewLemmas.{no_view_of}
use Rattle.vcm_job.proofs.views.view_of.Goals as goal

pub returns-in_err-input-clause-fault : goal.returns-in_err-input-clause-fault
returns-in_err-input-clause-fault g c =
    let p = err_from_is_err_and c.from_residual.result c.from_residual.ensures.1 in rw (p.1, p.2) (none_written _ _ _ _ _ _ _ c.in_err-input.ensures.fault)

pub returns-in_err-input-clause-long : goal.returns-in_err-input-clause-long
returns-in_err-input-clause-long g c = let p = err_from_is_err_and c.from_residual.result c.from_residual.ensures.1 in unread _ c.from_residual.result _ (p.1 ∙ ap Err p.2)

pub returns-in-Ok-clause-done : goal.returns-in-Ok-clause-done
returns-in-Ok-clause-done g c =
    given_of (λ input d. IsShown _ _ input _ d.status d.notices.items _ _) _ _ c.show_given.result c.in_ok-input.ensures.all (c.show_given.ensures.done _ c.in-Ok.ensures.given)

pub returns-in-Ok-clause-fault : goal.returns-in-Ok-clause-fault
returns-in-Ok-clause-fault g c = no_view_of _ _ _ _ _ _ c.show_given.result _ _ c.in_ok-input.ensures.all (c.show_given.ensures.fault _ c.in-Ok.ensures.given)
