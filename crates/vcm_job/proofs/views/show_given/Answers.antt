use Rattle.vcm_job.proofs.ViewLemmas.{view_given, fault_given}
use Rattle.vcm_job.proofs.views.show_given.Goals as goal

pub returns-in-Ok-clause-done : goal.returns-in-Ok-clause-done
returns-in-Ok-clause-done g c = λ input is.
    view_given _ _ input c.args.given.image.items c.args.given.text c.args.given.notices.items c.args.steps is _ _ _ c.in-Ok.ensures.shown

pub returns-clause-fault : goal.returns-clause-fault
returns-clause-fault g c = λ input is.
    rw (c.judged.ensures, c.is_some.ensures) (fault_given _ _ input c.args.given.image.items c.args.given.text c.args.given.notices.items c.args.steps is _ _ _ c.in-Err.ensures.fault)
