use Rattle.vcm_run.proofs.OneRun.{not_built, not_run, not_image_run}
use Rattle.vcm_run.proofs.laws.refused_is_not_run.Goals as goal

pub returns-clause-built : goal.returns-clause-built
returns-clause-built c = not_built

pub returns-clause-run : goal.returns-clause-run
returns-clause-run c = not_run

pub returns-clause-image : goal.returns-clause-image
returns-clause-image c = not_image_run
