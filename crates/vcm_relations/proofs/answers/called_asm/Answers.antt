use Rattle.vcm_job.specs.Listings.{IsPrinted, IsNotAssembled}
use Rattle.vcm_relations.proofs.Tied.{given}
use Rattle.vcm_relations.proofs.answers.called_asm.Goals as goal

pub returns : goal.returns
returns g c = given (λ text v. IsPrinted v.items text) IsNotAssembled _ _ _ c.asm.ensures.image c.asm.ensures.fault c.asm.ensures.long
