use Rattle.vcm_job.proofs.ListLemmas.{image_of_listing, image_refused}
use Rattle.vcm_job.proofs.listing.assembled.Goals as goal

pub returns-in-Ok-clause-image : goal.returns-in-Ok-clause-image
returns-in-Ok-clause-image c = image_of_listing (λ v. v.items) _ _ c.image_of.result c.in-Ok.ensures.found c.image_of.ensures.image

pub returns-in-Ok-clause-fault : goal.returns-in-Ok-clause-fault
returns-in-Ok-clause-fault c = image_refused _ c.image_of.result c.image_of.ensures.fault
