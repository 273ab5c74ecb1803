use Rattle.vcm_run.specs.Built.{IsBuilt}
use Rattle.vcm_job.specs.Files.{IsNotBuilt}
use Rattle.vcm_relations.proofs.Tied.{given}
use Rattle.vcm_relations.proofs.answers.called_build.Goals as goal

pub returns : goal.returns
returns g c = given (λ text b. IsBuilt text b.image.items b.notices.items) IsNotBuilt _ _ _ c.build.ensures.built c.build.ensures.fault c.build.ensures.long
