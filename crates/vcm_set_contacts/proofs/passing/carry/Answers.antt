use Rattle.vcm_set_contacts.proofs.Stepping.{went, stopping_at, still_running, met_at}
use Rattle.vcm_set_contacts.proofs.passing.carry.Goals as goal

pub returns-in-Ok-None-clause-ok : goal.returns-in-Ok-None-clause-ok
returns-in-Ok-None-clause-ok g c = went c.args.machine.now c.requires.running c.go.new.self (rw c.in-Ok-None.field-0-is at c.in-Ok-None.ensures.ok)

pub meet-requires-clause-running : goal.meet-requires-clause-running
meet-requires-clause-running g c =
    still_running c.args.machine.now c.go.new.self c.in-Ok-Some.stop (rw c.in-Ok-Some.field-0-is at c.in-Ok-Some.ensures.ok) c.requires.running

pub meet-requires-clause-stops : goal.meet-requires-clause-stops
meet-requires-clause-stops g c =
    stopping_at c.args.machine.now c.go.new.self c.in-Ok-Some.stop (rw c.in-Ok-Some.field-0-is at c.in-Ok-Some.ensures.ok)

pub returns-in-Ok-Some-clause-ok : goal.returns-in-Ok-Some-clause-ok
returns-in-Ok-Some-clause-ok g c =
    met_at c.args.machine.now c.go.new.self c.in-Ok-Some.stop (rw c.in-Ok-Some.field-0-is at c.in-Ok-Some.ensures.ok) c.requires.running c.meet.result c.meet.new.machine
    c.meet.ensures
