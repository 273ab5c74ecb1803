use Rattle.vcm_carried.proofs.Contacts.{contact_unique}
use Rattle.vcm_carried.proofs.laws.box_contact_is_unique.Goals as goal

pub returns : goal.returns
returns c = contact_unique
