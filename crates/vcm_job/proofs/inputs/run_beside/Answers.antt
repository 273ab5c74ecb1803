use Rattle.vcm_job.proofs.inputs.run_beside.Goals as goal

pub returns-in-Ok-clause-run : goal.returns-in-Ok-clause-run
returns-in-Ok-clause-run c = λ input is. (let run = c.run_given.ensures.run input is in rw c.in-Ok.ensures.meaning at run)
