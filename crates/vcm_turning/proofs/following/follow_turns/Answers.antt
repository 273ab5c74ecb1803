use Rattle.std.proofs.Common.{sym, subst}
use Rattle.vcm_turning.specs.Steps.{turned_steps}
use Rattle.vcm_turning.proofs.Followed.{still_fits, goes_on, breaks, ends}
use Rattle.vcm_turning.proofs.following.follow_turns.Goals as goal

pub step_on-requires-clause-fits : goal.step_on-requires-clause-fits
step_on-requires-clause-fits g c =
    still_fits c.args.machine.now.part c.args.machine.now.probes c.args.machine.now.variable c.args.loaded.now c.args.steps c.loop-done.machine c.loop-done.done _ c.loop-done.invariant
    (g.F.FollowsTurns.Fits c.args.by.now) c.requires.fits

pub loop-done-preserved : goal.loop-done-preserved
loop-done-preserved g c =
    let d = c.in-Ok-None.ensures.done c.in-Ok-None.field-0-is in
    goes_on c.args.machine.now.part c.args.machine.now.probes c.args.machine.now.variable c.args.loaded.now c.args.steps c.loop-done.machine c.loop-done.done _ c.loop-done.invariant
    c.step_on.new.machine _ c.loop-done-test.true d.0 (λ ss h. d.1 _ ss h)

pub returns-in-Ok-Some-clause-run : goal.returns-in-Ok-Some-clause-run
returns-in-Ok-Some-clause-run g c =
    let d = rw c.in-Ok-Some.field-0-is at c.in-Ok-Some.ensures.ended in
    ends c.args.machine.now.part c.args.machine.now.probes c.args.machine.now.variable c.args.loaded.now c.args.steps c.loop-done.machine c.loop-done.done _ c.loop-done.invariant
    c.step_on.new.machine c.in-Ok-Some.end c.loop-done-test.true d.0 d.2

pub returns-in-Ok-Some-clause-has : goal.returns-in-Ok-Some-clause-has
returns-in-Ok-Some-clause-has g c =
    let d = rw c.in-Ok-Some.field-0-is at c.in-Ok-Some.ensures.ended in
    subst
    (λ to. g.F.FollowsTurns.Has c.args.by.now c.args.loaded.now.tables c.args.to.now to
    (turned_steps c.args.machine.now.part c.args.machine.now.probes c.args.machine.now.variable c.args.loaded.now c.loop-done.done))
    (sym d.1) c.loop-done.invariant.followed

pub returns-in-Err-clause-err : goal.returns-in-Err-clause-err
returns-in-Err-clause-err g c =
    let f = c.in-Err.ensures.err in
    breaks c.args.machine.now.part c.args.machine.now.probes c.args.machine.now.variable c.args.loaded.now c.args.steps c.loop-done.machine c.loop-done.done _ c.loop-done.invariant f.0 _
    c.loop-done-test.true f.1 f.2 (λ ss h. f.3 _ ss h)
