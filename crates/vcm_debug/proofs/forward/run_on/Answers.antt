use Rattle.std.proofs.Common.{◌+◌, sym, ◌∙◌, ap}
use Rattle.vcm_debug.specs.inner.Going.{begun}
use Rattle.vcm_debug.proofs.Stepping.{goes, ends, come_is}
use Rattle.vcm_debug.proofs.Coming.{arrived}
use Rattle.vcm_debug.proofs.forward.run_on.Goals as goal

pub returns-in-Some-clause-run : goal.returns-in-Some-clause-run
returns-in-Some-clause-run g c =
    ends c.args.breakpoints.now c.args.watches.now c.args.k c.args.machine.now c.loop-done.machine c.step.new.machine c.loop-done.done c.loop-done.invariant.come
    c.loop-done-test.true c.in-Ok.ensures.ok c.in-Some.why (sym (c.in-Some.ensures c.loop-done.machine (λ t. c.deref.ensures.value ∙ c.note.ensures.noted t ∙ c.values.ensures.are)))

pub returns-in-Some-clause-kept : goal.returns-in-Some-clause-kept
returns-in-Some-clause-kept g c =
    c.pass.ensures c.args.machine.now
    (arrived c.args.machine.now c.step.new.machine c.args.count (c.loop-done.done + 1) c.requires.at
    (come_is c.args.breakpoints.now c.args.watches.now c.args.k c.args.machine.now c.loop-done.machine c.step.new.machine c.loop-done.done c.loop-done.invariant.come
    c.loop-done-test.true c.in-Ok.ensures.ok)
    ∙ ap (λ n. begun c.args.machine.now (c.args.count + n)) (sym c.from.ensures)) (c.step.ensures.kept c.args.machine.now c.loop-done.invariant.kept)

pub loop-done-preserved : goal.loop-done-preserved
loop-done-preserved g c = record {
  come =
      goes c.args.breakpoints.now c.args.watches.now c.args.k c.args.machine.now c.loop-done.machine c.step.new.machine c.loop-done.done c.loop-done.invariant.come
      c.loop-done-test.true c.in-Ok.ensures.ok
      (sym (c.in_default-reason.ensures c.loop-done.machine (λ t. c.deref.ensures.value ∙ c.note.ensures.noted t ∙ c.values.ensures.are)));
  room = c.note.ensures.room ∙ c.loop-done.invariant.room;
  kept =
      c.pass.ensures c.args.machine.now
      (arrived c.args.machine.now c.step.new.machine c.args.count (c.loop-done.done + 1) c.requires.at
      (come_is c.args.breakpoints.now c.args.watches.now c.args.k c.args.machine.now c.loop-done.machine c.step.new.machine c.loop-done.done c.loop-done.invariant.come
      c.loop-done-test.true c.in-Ok.ensures.ok)
      ∙ ap (λ n. begun c.args.machine.now (c.args.count + n)) (sym c.from.ensures)) (c.step.ensures.kept c.args.machine.now c.loop-done.invariant.kept);
}
