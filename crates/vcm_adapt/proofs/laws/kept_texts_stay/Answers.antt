use Rattle.vcm_adapt.proofs.Whole.{adapted_kept}
use Rattle.vcm_adapt.proofs.laws.kept_texts_stay.Goals as goal

pub returns : goal.returns
returns c = adapted_kept
