use Rattle.vcm_machine.proofs.LawLemmas.{add_up}
use Rattle.vcm_machine.proofs.laws.runs_add_up.Goals as goal

pub returns : goal.returns
returns c = add_up
