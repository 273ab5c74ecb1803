use Rattle.vcm_margin.proofs.Widths.{monotone}
use Rattle.vcm_margin.proofs.OneMargin.{greatest}
use Rattle.vcm_margin.proofs.laws.margins_are_greatest.Goals as goal

pub returns-clause-between : goal.returns-clause-between
returns-clause-between c = monotone

pub returns-clause-greatest : goal.returns-clause-greatest
returns-clause-greatest c = greatest
