use Rattle.vcm_run.proofs.OneRun.{one_build}
use Rattle.vcm_run.proofs.laws.builds_are_one.Goals as goal

pub returns : goal.returns
returns c = one_build
