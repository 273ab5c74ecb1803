use Rattle.vcm_run.proofs.SameRun.{calls_show}
use Rattle.vcm_run.proofs.laws.calls_show_the_program.Goals as goal

pub returns : goal.returns
returns c = calls_show
