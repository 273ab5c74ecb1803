use Rattle.std.specs.Prelude.{map}
use Rattle.vcm_contacts.specs.Noted.{seen}
use Rattle.vcm_contacts.proofs.Steps.{gone_on}
use Rattle.vcm_contacts.proofs.collecting.step_on.Goals as goal

pub returns-in-Ok-note_step-clause-went : goal.returns-in-Ok-note_step-clause-went
returns-in-Ok-note_step-clause-went g c =
    gone_on c.args.source.now c.args.loaded.now c.args.machine.now c.step.new.self c.requires.code c.in-Ok.met c.in-Ok.ensures.ok c.world.result.now c.world.ensures.state c.world.ensures.tables
    c.next-number.result c.next.result c.next-number.ensures.is c.next.ensures.is c.args.notes.now.rounds c.note_step.new.notes.rounds c.in-Ok-note_step.ensures.rounds
    (map seen c.args.notes.now.found.items) (map seen c.note_step.new.notes.found.items) c.in-Ok-note_step.ensures.found
