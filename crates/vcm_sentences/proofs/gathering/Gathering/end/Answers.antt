use Rattle.vcm_sentences.proofs.StretchLemmas.{end_open, on_two}
use Rattle.vcm_sentences.proofs.gathering.Gathering.end.Goals as goal

pub returns-then-self-clause-told : goal.returns-then-self-clause-told
returns-then-self-clause-told c = on_two c.finish.result _ _ _ c.finish.ensures.told c.finish.ensures.told (λ said again all s. end_open all _ _ _ _ _ c.if-self.true said s)
