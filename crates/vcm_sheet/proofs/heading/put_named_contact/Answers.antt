use Rattle.vcm_sheet.proofs.heading.put_named_contact.Goals as goal

pub returns : goal.returns
returns c = rw (c.from.ensures, c.gap_before.ensures) at c.put_line.ensures
