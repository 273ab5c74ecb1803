use Rattle.vcm_clearance.proofs.Telling.{met_is_told}
use Rattle.vcm_clearance.proofs.laws.what_is_met_is_told.Goals as goal

pub returns : goal.returns
returns c = met_is_told
