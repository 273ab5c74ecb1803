use Rattle.vcm_way.proofs.ContactEnds.{contacts_end}
use Rattle.vcm_way.proofs.laws.contacts_end_ways.Goals as goal

pub returns : goal.returns
returns c = contacts_end
