use Rattle.std.specs.Prelude.{map}
use Rattle.vcm_contacts.specs.Noted.{seen}
use Rattle.vcm_set_contacts.proofs.Many.{noted_one}
use Rattle.vcm_set_contacts.proofs.Stepping.{stepped_one}
use Rattle.vcm_set_contacts.proofs.Stopping.{stands_there}
use Rattle.vcm_set_contacts.proofs.collecting.step_on.Goals as goal

pub returns-in-Ok-note_step-clause-went : goal.returns-in-Ok-note_step-clause-went
returns-in-Ok-note_step-clause-went g c =
    let m = c.args.machine.now in
    let s = c.statement-statement.result in
    let stands = stands_there m c.args.loaded.now c.next-number.result s c.requires.code c.next-number.ensures.is c.statement-statement.ensures in
    let one = stepped_one m s c.requires.running stands c.in_default.ensures c.in-Ok.met c.step.new.machine c.in-Ok.ensures.ok in
    λ none. noted_one c.args.source.now m c.step.new.machine c.args.loaded.now c.requires.code c.args.notes.now.rounds c.note_step.new.notes.rounds c.in-Ok.met one c.world.result.now
    c.world.ensures.state c.world.ensures.tables c.next-number.result c.next-next.result c.next-number.ensures.is c.next-next.ensures.is c.in-Ok-note_step.ensures.rounds
    (map seen c.args.notes.now.found.items) (map seen c.note_step.new.notes.found.items) c.in-Ok-note_step.ensures.found
