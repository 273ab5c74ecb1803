use Rattle.vcm_loader.proofs.Refusals.{one_refusal}
use Rattle.vcm_loader.proofs.laws.refusals_are_one.Goals as goal

pub returns : goal.returns
returns c = one_refusal
