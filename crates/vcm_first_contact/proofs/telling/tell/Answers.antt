use Rattle.vcm_first_contact.proofs.telling.tell.Goals as goal

pub returns-in-None : goal.returns-in-None
returns-in-None g c = rw c.in-None.is c.write_none.ensures
