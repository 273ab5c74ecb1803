use Rattle.vcm_job.specs.Checks.{IsChecked, IsNotChecked}
use Rattle.vcm_relations.proofs.Tied.{answer}
use Rattle.vcm_relations.proofs.answers.called_check.Goals as goal

pub returns : goal.returns
returns g c = answer (λ text v. IsChecked text v.items) IsNotChecked _ _ _ _ _ c.check.ensures.done c.check.ensures.fault c.check.ensures.long
