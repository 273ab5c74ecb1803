use Rattle.vcm_calls.proofs.Walking.{carries_out}
use Rattle.vcm_calls.proofs.laws.carries_out_the_walk.Goals as goal

pub returns : goal.returns
returns c = carries_out
