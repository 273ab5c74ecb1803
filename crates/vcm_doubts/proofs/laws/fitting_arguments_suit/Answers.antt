use Rattle.vcm_doubts.proofs.Suiting.{fitting_suits}
use Rattle.vcm_doubts.proofs.laws.fitting_arguments_suit.Goals as goal

pub returns : goal.returns
returns c = fitting_suits
