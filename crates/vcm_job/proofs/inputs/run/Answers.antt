use Rattle.std.proofs.Common.{◌∙◌, ap, Err}
use Rattle.std.proofs.lemmas.Result.{err_from_is_err_and}
use Rattle.vcm_job.specs.Inputs.{IsWritten}
use Rattle.vcm_job.proofs.InputLemmas.{not_written_of}
use Rattle.vcm_job.proofs.UnreadLemmas.{none_written, given_of, read_whole, unread}
use Rattle.vcm_job.proofs.inputs.run.Goals as goal

pub returns-clause-done : goal.returns-clause-done
returns-clause-done g c =
    given_of (λ input d. IsWritten _ input _ d.status d.notices.items _ _) _ _ c.run_input.result c.in_ok-input.ensures.all c.run_input.ensures.done

pub returns-clause-fault : goal.returns-clause-fault
returns-clause-fault g c = not_written_of _ _ _ _ _ c.run_input.result _ _ c.in_ok-input.ensures.all c.run_input.ensures.fault

pub returns-clause-long : goal.returns-clause-long
returns-clause-long g c = read_whole _ _ c.run_input.result c.in_ok-input.ensures.all c.in_ok-input.ensures.short

pub returns-in_err-input-clause-fault : goal.returns-in_err-input-clause-fault
returns-in_err-input-clause-fault g c = let p = err_from_is_err_and c.from_residual.result c.from_residual.ensures.1 in rw (p.1, p.2) (none_written _ _ _ _ _ _ _ c.in_err-input.ensures.fault)

pub returns-in_err-input-clause-long : goal.returns-in_err-input-clause-long
returns-in_err-input-clause-long g c = let p = err_from_is_err_and c.from_residual.result c.from_residual.ensures.1 in unread _ c.from_residual.result _ (p.1 ∙ ap Err p.2)
