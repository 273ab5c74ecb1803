use Rattle.vcm_loader.proofs.Refusals.{no_refusal}
use Rattle.vcm_loader.proofs.laws.valid_codes_have_no_refusal.Goals as goal

pub returns : goal.returns
returns c = no_refusal
