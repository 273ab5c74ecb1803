use Rattle.vcm_turning.proofs.Taken.{went_on, stopped_there}
use Rattle.vcm_turning.proofs.turning.Turning.step.Goals as goal

pub returns-in-Ok-None-clause-ok : goal.returns-in-Ok-None-clause-ok
returns-in-Ok-None-clause-ok g c =
    let t = c.turn.ensures in
    went_on c.args.self.now c.go.new.self (rw c.in-Ok-None.field-0-is at c.in-Ok-None.ensures.ok) c.turn.result c.turn.new.self t.turn t.behind

pub returns-in-Ok-Some-clause-ok : goal.returns-in-Ok-Some-clause-ok
returns-in-Ok-Some-clause-ok g c =
    let t = c.halt.ensures in
    stopped_there c.args.self.now c.go.new.self c.in-Ok-Some.stop (rw c.in-Ok-Some.field-0-is at c.in-Ok-Some.ensures.ok) c.halt.result c.halt.new.self t.turn t.halted
