use Rattle.vcm_machine.proofs.LawLemmas.{follow}
use Rattle.vcm_machine.proofs.laws.runs_follow.Goals as goal

pub returns : goal.returns
returns c = follow
