use Rattle.std.proofs.Common.{◌∙◌, ap, Err}
use Rattle.std.proofs.lemmas.Result.{err_from_is_err_and}
use Rattle.vcm_words.specs.Outcomes.{FaultOrWant}
use Rattle.vcm_job.specs.Listings.{IsPrinted}
use Rattle.vcm_job.proofs.UnreadLemmas.{none_given, none_given_of, given_of, read_whole, unread}
use Rattle.vcm_job.proofs.listing.asm.Goals as goal

pub returns-clause-image : goal.returns-clause-image
returns-clause-image g c =
    given_of (λ text v. IsPrinted v.items text) _ _ c.assembled.result c.in_ok-text.ensures.all (rw c.deref.ensures.value at c.assembled.ensures.image)

pub returns-clause-fault : goal.returns-clause-fault
returns-clause-fault g c =
    none_given_of FaultOrWant _ _ _ c.in_ok-text.ensures.all c.assembled.result (rw c.deref.ensures.value at c.assembled.ensures.fault)

pub returns-clause-long : goal.returns-clause-long
returns-clause-long g c = read_whole _ _ c.assembled.result c.in_ok-text.ensures.all c.in_ok-text.ensures.short

pub returns-in_err-text-clause-fault : goal.returns-in_err-text-clause-fault
returns-in_err-text-clause-fault g c = let p = err_from_is_err_and c.from_residual.result c.from_residual.ensures.1 in rw (p.1, p.2) (none_given FaultOrWant _ _ _ c.in_err-text.ensures.fault)

pub returns-in_err-text-clause-long : goal.returns-in_err-text-clause-long
returns-in_err-text-clause-long g c = let p = err_from_is_err_and c.from_residual.result c.from_residual.ensures.1 in unread _ c.from_residual.result _ (p.1 ∙ ap Err p.2)
