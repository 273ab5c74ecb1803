use Rattle.vcm_whole.proofs.OneWhole.{accepted_texts_stay}
use Rattle.vcm_whole.proofs.laws.accepted_texts_stay.Goals as goal

pub returns : goal.returns
returns c = accepted_texts_stay
