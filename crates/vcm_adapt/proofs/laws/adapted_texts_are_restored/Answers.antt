use Rattle.vcm_adapt.proofs.Restoring.{adapted_restored}
use Rattle.vcm_adapt.proofs.laws.adapted_texts_are_restored.Goals as goal

pub returns : goal.returns
returns c = adapted_restored
