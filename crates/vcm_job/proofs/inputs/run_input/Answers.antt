use Rattle.vcm_job.proofs.InputLemmas.{run_done, run_short, run_cut_off}
use Rattle.vcm_job.proofs.inputs.run_input.Goals as goal

pub returns-in-Ok-finish-clause-done : goal.returns-in-Ok-finish-clause-done
returns-in-Ok-finish-clause-done g c =
    run_done c.args.part.now c.args.input.items c.args.steps c.in-Ok.summary c.in-Ok.ensures.run _ _ _ _ c.in-Ok-finish.ensures.done

pub returns-in-Err-Memory-clause-fault : goal.returns-in-Err-Memory-clause-fault
returns-in-Err-Memory-clause-fault g c =
    run_short c.args.part.now c.args.input.items c.args.steps c.in-Ok.summary c.in-Ok.ensures.run _ _ _ (rw c.in-Err-Memory.field-0-is at c.in-Err-Memory.ensures.fault)

pub returns-in-Err-Write-clause-fault : goal.returns-in-Err-Write-clause-fault
returns-in-Err-Write-clause-fault g c =
    run_cut_off c.args.part.now c.args.input.items c.args.steps c.in-Ok.summary c.in-Ok.ensures.run _ _ _ (rw c.in-Err-Write.field-0-is at c.in-Err-Write.ensures.fault)
