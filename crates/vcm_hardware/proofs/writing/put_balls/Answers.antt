use Rattle.std.proofs.Common.{sym, arith}
use Rattle.vcm_hardware.proofs.Loops.{ball_put, balls_put}
use Rattle.vcm_hardware.proofs.writing.put_balls.Goals as goal

pub loop-place-preserved : goal.loop-place-preserved
loop-place-preserved c = record {
  bytes = ball_put c.args.turning.now c.args.tip c.args.own c.args.balls.now c.loop-place.place c.index-balls-place.result c.loop-place.out.items _ _ (omega arith)
      (sym c.index-balls-place.is) c.loop-place.invariant.bytes c.in_ok-put_ball.ensures;
}

pub returns : goal.returns
returns c =
    balls_put c.args.turning.now c.args.tip c.args.own c.args.balls.now c.loop-place.place c.loop-place.out.items _ (omega arith) c.loop-place.invariant.bytes
