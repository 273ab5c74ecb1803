use Rattle.vcm_carried.proofs.Contacts.{contact_is}
use Rattle.vcm_carried.proofs.laws.box_contact_is_computed.Goals as goal

pub returns : goal.returns
returns c = contact_is
