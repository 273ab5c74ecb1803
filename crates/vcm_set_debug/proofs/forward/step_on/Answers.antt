use Rattle.std.proofs.Common.{sym}
use Rattle.vcm_set_debug.proofs.Stepping.{stands, walks, stays}
use Rattle.vcm_set_debug.proofs.forward.step_on.Goals as goal

pub loop-done-init : goal.loop-done-init
loop-done-init g c = stands c.args.k c.args.course.now

pub loop-done-preserved : goal.loop-done-preserved
loop-done-preserved g c =
    walks c.args.k c.args.course.now c.loop-done.course c.loop-done.done c.loop-done.invariant c.advance.new.self c.loop-done-test.true (sym c.if-goes.ensures) c.in-Ok.ensures.ok

pub returns-else-goes : goal.returns-else-goes
returns-else-goes g c = stays c.args.k c.args.course.now c.loop-done.course c.loop-done.done c.loop-done.invariant (sym c.if-goes.ensures)
