use Rattle.vcm_survey.proofs.OneFault.{one_answer}
use Rattle.vcm_survey.proofs.laws.faults_are_one.Goals as goal

pub returns : goal.returns
returns c = one_answer
