use Rattle.vcm_debug.proofs.Backwards.{runs_on}
use Rattle.vcm_debug.proofs.laws.runs_on_to_where_it_was.Goals as goal

pub returns : goal.returns
returns c = runs_on
