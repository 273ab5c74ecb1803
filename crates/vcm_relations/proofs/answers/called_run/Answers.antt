use Rattle.vcm_job.specs.Inputs.{IsWritten, IsNotWritten}
use Rattle.vcm_relations.proofs.Tied.{answer}
use Rattle.vcm_relations.proofs.answers.called_run.Goals as goal

pub returns : goal.returns
returns g c = answer (λ input d. IsWritten c.args.part.now input c.args.steps d.status d.notices.items) (IsNotWritten c.args.part.now c.args.steps) _ _ _ _ _
    c.run.ensures.done c.run.ensures.fault c.run.ensures.long
