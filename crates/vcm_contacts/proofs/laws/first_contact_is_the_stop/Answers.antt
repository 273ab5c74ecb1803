use Rattle.vcm_contacts.proofs.Agreeing.{first_is_the_stop}
use Rattle.vcm_contacts.proofs.laws.first_contact_is_the_stop.Goals as goal

pub returns : goal.returns
returns c = first_is_the_stop
