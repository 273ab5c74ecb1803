use Rattle.vcm_machine.proofs.LawLemmas.{one_run}
use Rattle.vcm_machine.proofs.laws.run_is_one.Goals as goal

pub returns : goal.returns
returns c = one_run
