use Rattle.vcm_functions.proofs.Folds.{stays}
use Rattle.vcm_functions.proofs.laws.other_expressions_stay.Goals as goal

pub returns : goal.returns
returns c = stays
