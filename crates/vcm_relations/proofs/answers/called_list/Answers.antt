use Rattle.vcm_job.specs.Listings.{IsWrittenOut, IsNotListed}
use Rattle.vcm_relations.proofs.Tied.{answer}
use Rattle.vcm_relations.proofs.answers.called_list.Goals as goal

pub returns : goal.returns
returns g c = answer (λ input v. IsWrittenOut input v.items) IsNotListed _ _ _ _ _ c.list.ensures.done c.list.ensures.fault c.list.ensures.long
