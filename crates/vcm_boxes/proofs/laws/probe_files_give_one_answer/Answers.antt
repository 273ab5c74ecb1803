use Rattle.vcm_boxes.proofs.Answers.{one_answer}
use Rattle.vcm_boxes.proofs.laws.probe_files_give_one_answer.Goals as goal

pub returns : goal.returns
returns c = one_answer
