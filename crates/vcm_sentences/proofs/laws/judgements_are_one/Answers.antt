use Rattle.vcm_sentences.proofs.Judging.{one_judgement}
use Rattle.vcm_sentences.proofs.laws.judgements_are_one.Goals as goal

pub returns : goal.returns
returns c = one_judgement
