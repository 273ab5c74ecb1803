use Rattle.vcm_short_names.proofs.Whole.{pieces_are_whole}
use Rattle.vcm_short_names.proofs.laws.pieces_are_the_text.Goals as goal

pub returns : goal.returns
returns c = pieces_are_whole
