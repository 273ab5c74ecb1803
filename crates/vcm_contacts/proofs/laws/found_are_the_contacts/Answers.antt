use Rattle.vcm_contacts.proofs.Steps.{found_are}
use Rattle.vcm_contacts.proofs.laws.found_are_the_contacts.Goals as goal

pub returns : goal.returns
returns c = found_are
