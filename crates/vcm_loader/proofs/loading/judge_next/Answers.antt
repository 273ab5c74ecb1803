use Rattle.vcm_loader.proofs.Judgements.{first_here}
use Rattle.vcm_loader.proofs.Verdicts.{found_next}
use Rattle.vcm_loader.proofs.loading.judge_next.Goals as goal

pub returns-in-Ok : goal.returns-in-Ok
returns-in-Ok c = λ cs h. found_next cs _ c.args.op.now c.judge_operation.result (rw c.in-Ok.is at h) c.judge_operation.ensures.ok c.judge_operation.ensures.err

pub returns-in-Err : goal.returns-in-Err
returns-in-Err c = λ cs h. first_here cs _ c.in-Err.fault (rw c.in-Err.is at h)
