use Rattle.vcm_turning.proofs.Runs.{first_steps}
use Rattle.vcm_turning.proofs.laws.first_steps_are_the_run.Goals as goal

pub returns : goal.returns
returns c = first_steps
