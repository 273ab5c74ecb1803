use Rattle.std.proofs.lemmas.Result.{err_from_is_err_and}
use Rattle.vcm_naming.proofs.Pages.{line_added, line_cut}
use Rattle.vcm_contacts.specs.Printed.{contact_line}
use Rattle.vcm_contacts.proofs.writing.write_named.Goals as goal

pub returns-in_err-write_contact : goal.returns-in_err-write_contact
returns-in_err-write_contact g c =
    let p = err_from_is_err_and c.from_residual.result c.from_residual.ensures.1 in
    rw p.1 (line_cut (contact_line c.args.contact.now) c.args.names.now _ _ _ c.in_err-write_contact.ensures)

pub returns : goal.returns
returns g c = line_added (contact_line c.args.contact.now) c.args.names.now _ _ _ _ _ c.in_ok-write_contact.ensures c.write_once.ensures.written c.write_once.ensures.ok
