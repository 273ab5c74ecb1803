use Rattle.vcm_margin.proofs.Widths.{alike_runs_show}
use Rattle.vcm_margin.proofs.laws.alike_runs_show_the_same.Goals as goal

pub returns : goal.returns
returns c = alike_runs_show
