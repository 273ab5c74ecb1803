use Rattle.vcm_short_names.proofs.Unshortened.{other_words_stay}
use Rattle.vcm_short_names.proofs.laws.other_words_stay.Goals as goal

pub returns : goal.returns
returns c = other_words_stay
