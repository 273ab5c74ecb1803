use Rattle.vcm_set_contacts.proofs.passing.step.Goals as goal

pub returns-in-Ok-clause-ok : goal.returns-in-Ok-clause-ok
returns-in-Ok-clause-ok g c = record { between = c.carry.new.machine; has_met = c.in-Ok.ensures.ok; new_is = c.turn_on.ensures }
