use Rattle.vcm_margin.proofs.OneMargin.{one_margin}
use Rattle.vcm_margin.proofs.laws.margins_are_one.Goals as goal

pub returns : goal.returns
returns c = one_margin
