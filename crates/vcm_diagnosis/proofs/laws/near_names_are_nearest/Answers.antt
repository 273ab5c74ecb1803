use Rattle.vcm_diagnosis.proofs.Nearest.{near_is_nearest, others_are_far}
use Rattle.vcm_diagnosis.proofs.laws.near_names_are_nearest.Goals as goal

pub returns : goal.returns
returns c = record { nearest = near_is_nearest; others = others_are_far }
