use Rattle.std.proofs.Common.{sym, ◌∙◌}
use Rattle.vcm_set_debug.specs.Reached.{machine_at}
use Rattle.vcm_set_debug.proofs.Stepping.{sets_out, goes_there, goes_on, ends}
use Rattle.vcm_set_debug.proofs.forward.run_on.Goals as goal

pub loop-done-init : goal.loop-done-init
loop-done-init g c = record {
  come = sets_out c.args.breakpoints.now c.args.watches.now c.args.k c.args.course.now c.requires.goes;
  room = c.requires.before;
}

pub advance-requires-clause-goes : goal.advance-requires-clause-goes
advance-requires-clause-goes g c =
    goes_there c.args.breakpoints.now c.args.watches.now c.args.k c.args.course.now c.loop-done.course c.loop-done.course c.loop-done.done c.loop-done.invariant.come

pub returns-in-Some-clause-run : goal.returns-in-Some-clause-run
returns-in-Some-clause-run g c =
    ends c.args.breakpoints.now c.args.watches.now c.args.k c.args.course.now c.loop-done.course c.advance.new.self c.loop-done.done c.loop-done.invariant.come
    c.loop-done-test.true c.in-Ok.ensures.ok c.in-Some.why (sym (c.in-Some.ensures (machine_at c.loop-done.course c.loop-done.course.count) (λ t. c.deref.ensures.value ∙ c.note.ensures.noted t ∙ c.values.ensures.are)))

pub loop-done-preserved : goal.loop-done-preserved
loop-done-preserved g c = record {
  come =
      goes_on c.args.breakpoints.now c.args.watches.now c.args.k c.args.course.now c.loop-done.course c.advance.new.self c.loop-done.done c.loop-done.invariant.come
      c.loop-done-test.true c.in-Ok.ensures.ok
      (sym (c.in_default-reason.ensures (machine_at c.loop-done.course c.loop-done.course.count) (λ t. c.deref.ensures.value ∙ c.note.ensures.noted t ∙ c.values.ensures.are)));
  room = c.note.ensures.room ∙ c.loop-done.invariant.room;
}
