use Rattle.vcm_short_names.proofs.Whole.{no_names, stays}
use Rattle.vcm_short_names.proofs.laws.short_texts_stay.Goals as goal

pub returns : goal.returns
returns c = record { names = no_names; text = stays }
