use Rattle.vcm_job.proofs.JobLemmas.{texts_run, program_refuses}
use Rattle.vcm_job.proofs.running.summary_of_texts.Goals as goal

pub returns-in-Ok-clause-run : goal.returns-in-Ok-clause-run
returns-in-Ok-clause-run c =
    texts_run c.args.input.now _ c.args.steps _ c.run_beside.result (rw c.texts_of.ensures.part at c.in-Ok.ensures) c.texts_of.ensures.program c.run_beside.ensures.run

pub returns-in-Ok-clause-fault : goal.returns-in-Ok-clause-fault
returns-in-Ok-clause-fault c =
    program_refuses c.args.input.now _ _ c.run_beside.result (rw c.texts_of.ensures.part at c.in-Ok.ensures) c.texts_of.ensures.program c.run_beside.ensures.refused
