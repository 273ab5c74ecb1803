use Rattle.vcm_naming.proofs.Pages.{adds_nothing}
use Rattle.vcm_clearance.proofs.printing.write_contact.Goals as goal

pub returns-in-None : goal.returns-in-None
returns-in-None g c = rw c.in-None.is (adds_nothing _)
