use Rattle.vcm_run.proofs.OneRun.{one_refused_line, one_image_refusal}
use Rattle.vcm_run.proofs.laws.refusals_are_one.Goals as goal

pub returns-clause-text : goal.returns-clause-text
returns-clause-text c = one_refused_line

pub returns-clause-image : goal.returns-clause-image
returns-clause-image c = one_image_refusal
