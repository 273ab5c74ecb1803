use Rattle.vcm_set_contacts.proofs.Agreeing.{first_stops_the_turning}
use Rattle.vcm_set_contacts.proofs.laws.first_contact_stops_the_turning.Goals as goal

pub returns : goal.returns
returns c = first_stops_the_turning
