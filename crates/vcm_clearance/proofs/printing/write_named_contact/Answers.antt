use Rattle.std.proofs.lemmas.Result.{err_from_is_err_and}
use Rattle.vcm_naming.specs.Naming.{about}
use Rattle.vcm_naming.proofs.Pages.{line_added, line_cut}
use Rattle.vcm_clearance.specs.Printed.{contact_text}
use Rattle.vcm_clearance.proofs.printing.write_named_contact.Goals as goal

pub returns-in_err-write_contact_line : goal.returns-in_err-write_contact_line
returns-in_err-write_contact_line g c =
    let p = err_from_is_err_and c.from_residual.result c.from_residual.ensures.1 in
    rw p.1 (line_cut (about c.args.told.now.contact.hit.block (contact_text c.args.name.now c.args.told.now)) c.args.names.now _ _ _ c.in_err-write_contact_line.ensures)

pub returns : goal.returns
returns g c =
    line_added (about c.args.told.now.contact.hit.block (contact_text c.args.name.now c.args.told.now)) c.args.names.now _ _ _ _ _ c.in_ok-write_contact_line.ensures c.write_once.ensures.written c.write_once.ensures.ok
