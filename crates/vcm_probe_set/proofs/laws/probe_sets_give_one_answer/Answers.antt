use Rattle.vcm_probe_set.proofs.Answers.{one_answer}
use Rattle.vcm_probe_set.proofs.laws.probe_sets_give_one_answer.Goals as goal

pub returns : goal.returns
returns c = one_answer
