use Rattle.std.proofs.Common.{◌+◌, ◌≡◌, None, sym, ◌∙◌, ap}
use Rattle.vcm_debug.specs.inner.Going.{begun}
use Rattle.vcm_debug.proofs.Coming.{arrived, goes_on, gone_is, has_stopped, none_of}
use Rattle.vcm_debug.proofs.forward.step_on.Goals as goal

pub loop-done-preserved : goal.loop-done-preserved
loop-done-preserved g c =
    let none : c.stop.result ≡ None = none_of c.stop.result c.if-is_none.ensures in
    record {
      gone =
          goes_on c.args.k c.args.machine.now c.loop-done.machine c.loop-done.done c.loop-done.invariant.gone c.step.new.machine c.loop-done-test.true
          (sym (ap (λ h. h.stop) c.world.ensures.state) ∙ sym c.stop.ensures ∙ none) c.in-Ok.ensures.ok;
      kept =
          c.pass.ensures c.args.machine.now
          (arrived c.args.machine.now c.step.new.machine c.args.count (c.loop-done.done + 1) c.requires.at
          (gone_is c.args.k c.args.machine.now c.loop-done.machine c.loop-done.done c.loop-done.invariant.gone c.step.new.machine c.in-Ok.ensures.ok)
          ∙ ap (λ n. begun c.args.machine.now (c.args.count + n)) (sym c.from.ensures)) (c.step.ensures.kept c.args.machine.now c.loop-done.invariant.kept);
    }

pub returns-else-is_none-clause-steps : goal.returns-else-is_none-clause-steps
returns-else-is_none-clause-steps g c =
    has_stopped c.args.k c.args.machine.now c.loop-done.machine c.loop-done.done c.loop-done.invariant.gone c.stop.result
    (sym (ap (λ h. h.stop) c.world.ensures.state) ∙ sym c.stop.ensures) c.if-is_none.ensures
