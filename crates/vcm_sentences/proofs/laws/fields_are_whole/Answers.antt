use Rattle.vcm_sentences.proofs.Fielding.{fields_whole}
use Rattle.vcm_sentences.proofs.laws.fields_are_whole.Goals as goal

pub returns : goal.returns
returns c = fields_whole
