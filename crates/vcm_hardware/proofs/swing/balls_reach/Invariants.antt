use Rattle.std.proofs.Common.{◌≡◌, drop}
use Rattle.vcm_hardware.specs.Swings.{balls_reach}
use Rattle.vcm_hardware.specs.inner.Sizes.{IsReached}
use Rattle.vcm_hardware.proofs.swing.balls_reach.Given as goal

abbrev pub invariant-loop-ball : goal.invariant-loop-ball
invariant-loop-ball l = record {
  small : IsReached l.all;
  so_far : balls_reach l.all (drop l.ball-index l.balls) ≡ balls_reach l.fn.before l.balls;
}
