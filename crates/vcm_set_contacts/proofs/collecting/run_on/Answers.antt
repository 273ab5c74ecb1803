use Rattle.std.proofs.Common.{sym, ap, ◌∙◌, arith}
use Rattle.std.specs.Prelude.{map}
use Rattle.vcm_contacts.specs.Noted.{seen}
use Rattle.vcm_set_contacts.proofs.Many.{goes_on, stopped, lost_there}
use Rattle.vcm_set_contacts.proofs.collecting.run_on.Goals as goal

pub returns-in-Some-clause-contacts : goal.returns-in-Some-clause-contacts
returns-in-Some-clause-contacts g c =
    let m = c.args.machine.now in
    stopped c.args.source.now m.part m.probes m.variable c.args.loaded.now c.loop-done.done c.loop-done.machine (map seen c.loop-done.notes.found.items) c.loop-done.notes.rounds c.loop-done.invariant.passed c.args.steps
    c.loop-done.invariant.few c.in-Some.stop (sym (c.in-Some.ensures ∙ ap (λ w. w.stop) c.world.ensures.state))

pub returns-in-Ok-Some-clause-contacts : goal.returns-in-Ok-Some-clause-contacts
returns-in-Ok-Some-clause-contacts g c =
    let m = c.args.machine.now in
    let d = rw c.in-Ok-Some.field-0-is at c.in-Ok-Some.ensures.lost in
    lost_there c.args.source.now m.part m.probes m.variable c.args.loaded.now c.loop-done.done c.loop-done.machine (map seen c.loop-done.notes.found.items) c.loop-done.notes.rounds c.loop-done.invariant.passed c.args.steps
    c.loop-done-test.true c.in-Ok-Some.lost d.0 (sym (c.in-None.ensures ∙ ap (λ w. w.stop) c.world.ensures.state)) (map seen c.step_on.new.notes.found.items) (ap (λ x. map seen x.found.items) d.1)

pub loop-done-preserved : goal.loop-done-preserved
loop-done-preserved g c =
    let m = c.args.machine.now in
    let went = c.in-Ok-None.ensures.went c.in-Ok-None.field-0-is in
    let few = c.loop-done-test.true in
    record {
      passed = goes_on c.args.source.now m.part m.probes m.variable c.args.loaded.now c.loop-done.done c.loop-done.machine (map seen c.loop-done.notes.found.items) c.loop-done.notes.rounds
          c.loop-done.invariant.passed went.0 c.step_on.new.machine c.step_on.new.notes.rounds (map seen c.step_on.new.notes.found.items) went.1 went.2;
      few = (omega (arith, few));
    }
