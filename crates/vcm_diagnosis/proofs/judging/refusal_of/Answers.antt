use Rattle.vcm_diagnosis.proofs.Refused.{told_by}
use Rattle.vcm_diagnosis.proofs.judging.refusal_of.Goals as goal

pub returns-in-Err : goal.returns-in-Err
returns-in-Err c = told_by c.args.text.now _ _ c.in-Err.ensures.refused c.told.ensures
