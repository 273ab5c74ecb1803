use Rattle.vcm_first_contact.proofs.FreeBoxes.{over_free, beside_free}
use Rattle.vcm_first_contact.proofs.laws.free_boxes_are_free.Goals as goal

pub returns-clause-over : goal.returns-clause-over
returns-clause-over c = over_free

pub returns-clause-beside : goal.returns-clause-beside
returns-clause-beside c = beside_free
