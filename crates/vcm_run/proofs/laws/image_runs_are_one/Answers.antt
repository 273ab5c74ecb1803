use Rattle.vcm_run.proofs.OneRun.{one_image_run}
use Rattle.vcm_run.proofs.laws.image_runs_are_one.Goals as goal

pub returns : goal.returns
returns c = one_image_run
