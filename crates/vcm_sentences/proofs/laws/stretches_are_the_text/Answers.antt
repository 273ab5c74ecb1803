use Rattle.vcm_sentences.proofs.StretchLaws.{stretches_whole}
use Rattle.vcm_sentences.proofs.laws.stretches_are_the_text.Goals as goal

pub returns : goal.returns
returns c = stretches_whole
