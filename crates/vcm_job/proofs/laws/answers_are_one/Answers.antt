use Rattle.vcm_job.proofs.RunAnswers.{job_answers, run_answers}
use Rattle.vcm_job.proofs.FileAnswers.{build_answers, check_answers, part_answers, read_answers}
use Rattle.vcm_job.proofs.ListAnswers.{list_answers, asm_answers}
use Rattle.vcm_job.proofs.laws.answers_are_one.Goals as goal

pub returns-clause-job : goal.returns-clause-job
returns-clause-job c = job_answers

pub returns-clause-run : goal.returns-clause-run
returns-clause-run c = run_answers

pub returns-clause-build : goal.returns-clause-build
returns-clause-build c = build_answers

pub returns-clause-check : goal.returns-clause-check
returns-clause-check c = check_answers

pub returns-clause-list : goal.returns-clause-list
returns-clause-list c = list_answers

pub returns-clause-asm : goal.returns-clause-asm
returns-clause-asm c = asm_answers

pub returns-clause-part : goal.returns-clause-part
returns-clause-part c = part_answers

pub returns-clause-read : goal.returns-clause-read
returns-clause-read c = read_answers
