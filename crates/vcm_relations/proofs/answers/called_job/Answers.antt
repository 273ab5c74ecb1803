use Rattle.vcm_job.specs.Results.{IsDone, IsNotDone}
use Rattle.vcm_relations.proofs.Tied.{answer}
use Rattle.vcm_relations.proofs.answers.called_job.Goals as goal

pub returns : goal.returns
returns g c = answer (λ input d. IsDone input d.status d.notices.items) IsNotDone _ _ _ _ _ c.job.ensures.done c.job.ensures.fault c.job.ensures.long
