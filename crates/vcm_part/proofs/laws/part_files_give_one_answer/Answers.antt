use Rattle.vcm_part.proofs.Refusals.{part_none}
use Rattle.vcm_part.proofs.Answers.{same_read}
use Rattle.vcm_part.proofs.laws.part_files_give_one_answer.Goals as goal

pub returns-clause-one : goal.returns-clause-one
returns-clause-one c = same_read

pub returns-clause-memory : goal.returns-clause-memory
returns-clause-memory c = part_none
