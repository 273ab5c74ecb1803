use Rattle.vcm_run.proofs.SameRun.{rests_shown}
use Rattle.vcm_run.proofs.laws.summaries_rest.Goals as goal

pub returns : goal.returns
returns c = rests_shown
