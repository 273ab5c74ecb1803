use Rattle.vcm_run.proofs.OneRun.{one_summary}
use Rattle.vcm_run.proofs.laws.summaries_are_one.Goals as goal

pub returns : goal.returns
returns c = one_summary
