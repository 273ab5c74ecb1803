use Rattle.vcm_margin.proofs.OneMargin.{told_so}
use Rattle.vcm_margin.proofs.laws.margins_tell_faults_or_points.Goals as goal

pub returns : goal.returns
returns c = told_so
