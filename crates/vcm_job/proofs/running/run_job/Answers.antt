use Rattle.vcm_job.proofs.JobLemmas.{job_done, job_short, job_cut_off}
use Rattle.vcm_job.proofs.running.run_job.Goals as goal

pub returns-in-Ok-finish-clause-done : goal.returns-in-Ok-finish-clause-done
returns-in-Ok-finish-clause-done g c =
    job_done c.args.steps c.requires c.args.input.now c.in-Ok.summary c.in-Ok.ensures.run _ _ _ _ c.in-Ok-finish.ensures.done

pub returns-in-Err-Memory-clause-fault : goal.returns-in-Err-Memory-clause-fault
returns-in-Err-Memory-clause-fault g c =
    job_short c.args.steps c.requires c.args.input.now c.in-Ok.summary c.in-Ok.ensures.run _ _ _ (rw c.in-Err-Memory.field-0-is at c.in-Err-Memory.ensures.fault)

pub returns-in-Err-Write-clause-fault : goal.returns-in-Err-Write-clause-fault
returns-in-Err-Write-clause-fault g c =
    job_cut_off c.args.steps c.requires c.args.input.now c.in-Ok.summary c.in-Ok.ensures.run _ _ _ (rw c.in-Err-Write.field-0-is at c.in-Err-Write.ensures.fault)
