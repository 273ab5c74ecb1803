use Rattle.std.proofs.Common.{sym, ap, ◌∙◌}
use Rattle.vcm_hardware.specs.Swings.{farther_of}
use Rattle.vcm_hardware.proofs.Loops.{balls_more, balls_all}
use Rattle.vcm_hardware.proofs.swing.balls_reach.Goals as goal

pub loop-ball-preserved : goal.loop-ball-preserved
loop-ball-preserved c = record {
  small = c.farther_of-all.ensures.small;
  so_far = balls_more c.args.balls.now c.loop-ball.ball-index c.ball-item.result c.loop-ball.all c.farther_of-all.result _ c.loop-ball-test.true (sym c.ball-item.is)
      c.loop-ball.invariant.so_far (c.farther_of-all.ensures.value ∙ ap (farther_of c.loop-ball.all) c.ball_reach.ensures.value);
}

pub returns-clause-value : goal.returns-clause-value
returns-clause-value c = balls_all c.args.balls.now c.loop-ball.ball-index c.loop-ball.all _ c.loop-ball-test.false c.loop-ball.invariant.so_far
