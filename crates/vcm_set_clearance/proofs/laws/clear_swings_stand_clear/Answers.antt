use Rattle.vcm_set_clearance.proofs.Untouched.{clear_swings}
use Rattle.vcm_set_clearance.proofs.laws.clear_swings_stand_clear.Goals as goal

pub returns : goal.returns
returns c = clear_swings
