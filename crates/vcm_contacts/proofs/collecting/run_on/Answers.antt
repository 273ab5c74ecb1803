use Rattle.std.proofs.Common.{Some, sym, ap, ◌∙◌, subst}
use Rattle.std.specs.Prelude.{map}
use Rattle.vcm_contacts.specs.Collecting.{AreContacts}
use Rattle.vcm_contacts.specs.Noted.{seen}
use Rattle.vcm_contacts.proofs.Steps.{ended}
use Rattle.vcm_contacts.proofs.collecting.run_on.Goals as goal

pub returns-in-Some-clause-contacts : goal.returns-in-Some-clause-contacts
returns-in-Some-clause-contacts g c =
    subst (λ x. AreContacts c.args.source.now c.args.machine.now.part x c.args.steps (map seen c.loop-done.notes.found.items) (Some c.in-Some.stop)) (sym (ap (λ m. m.code) c.requires.start))
    (ended c.args.source.now c.args.machine.now.part c.args.loaded.now c.loop-done.done c.loop-done.machine (map seen c.loop-done.notes.found.items) c.loop-done.notes.rounds
    c.loop-done.invariant.passed c.args.steps c.loop-done.invariant.few c.in-Some.stop (sym (c.in-Some.ensures ∙ ap (λ w. w.stop) c.world.ensures.state)))
