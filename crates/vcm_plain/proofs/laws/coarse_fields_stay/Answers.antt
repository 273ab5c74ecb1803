use Rattle.std.proofs.Common.{ap, ◌∙◌}
use Rattle.vcm_functions.proofs.Folds.{stays as unfolded}
use Rattle.vcm_plain.specs.Fine.{exact_text}
use Rattle.vcm_plain.proofs.Stays.{stays}
use Rattle.vcm_plain.proofs.laws.coarse_fields_stay.Goals as goal

pub returns : goal.returns
returns c = λ field h e. ap exact_text (unfolded field h) ∙ stays field e
