use Rattle.vcm_contacts.proofs.Lines.{none_there, some_there}
use Rattle.vcm_contacts.proofs.writing.write_count.Goals as goal

pub returns-in-None : goal.returns-in-None
returns-in-None g c = rw (none_there c.args.contacts.now c.in-None.ensures.cases) c.write_all.ensures

pub returns-in-Some : goal.returns-in-Some
returns-in-Some g c = rw (some_there c.args.contacts.now c.in-Some.first.now _ c.in-Some.ensures.cases.0) c.write_some.ensures
