use Rattle.vcm_summary.proofs.Same.{same_summary}
use Rattle.vcm_summary.proofs.laws.summaries_are_one.Goals as goal

pub returns : goal.returns
returns c = same_summary
