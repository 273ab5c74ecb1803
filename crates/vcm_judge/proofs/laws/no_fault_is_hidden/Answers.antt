use Rattle.vcm_judge.proofs.Unhidden.{none_hidden}
use Rattle.vcm_judge.proofs.laws.no_fault_is_hidden.Goals as goal

pub returns : goal.returns
returns c = none_hidden
