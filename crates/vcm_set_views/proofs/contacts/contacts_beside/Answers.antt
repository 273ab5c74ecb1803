use Rattle.std.specs.Prelude.{map}
use Rattle.vcm_contacts.specs.Noted.{seen}
use Rattle.vcm_set_views.proofs.Found.{of_machine}
use Rattle.vcm_set_views.proofs.contacts.contacts_beside.Goals as goal

pub returns-in-Ok : goal.returns-in-Ok
returns-in-Ok g c =
    let f = c.fitted.inside in
    of_machine c.args.source.now c.args.fitted.now c.in_ok-machine.machine f.part.now f.set.now f.variable f.loaded.now c.in_ok-machine.ensures c.fitted.view_is c.args.steps
    (map seen c.in-Ok.found.found.items) c.in-Ok.found.end c.in-Ok.ensures.contacts
