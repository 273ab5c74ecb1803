use Rattle.vcm_first_contact.proofs.telling.write_met.Goals as goal

pub returns : goal.returns
returns g c = rw (c.name_at-name.ensures, c.met_of-met.ensures) at c.write_first.ensures
