use Rattle.vcm_untried.proofs.Asked.{each_step_is_told}
use Rattle.vcm_untried.proofs.Ended.{all_short}
use Rattle.vcm_untried.proofs.laws.each_step_is_told.Goals as goal

pub returns-clause-told : goal.returns-clause-told
returns-clause-told c = each_step_is_told

pub returns-clause-short : goal.returns-clause-short
returns-clause-short c = all_short
