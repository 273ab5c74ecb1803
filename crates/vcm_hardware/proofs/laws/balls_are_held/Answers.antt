use Rattle.vcm_hardware.proofs.Balls.{balls_are_held}
use Rattle.vcm_hardware.proofs.laws.balls_are_held.Goals as goal

pub returns : goal.returns
returns c = balls_are_held
