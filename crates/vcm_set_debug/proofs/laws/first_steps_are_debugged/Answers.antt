use Rattle.vcm_turning.proofs.Runs.{of_run}
use Rattle.vcm_set_debug.proofs.laws.first_steps_are_debugged.Goals as goal

pub returns : goal.returns
returns c = λ r breakpoints watches still going. of_run r.part r.probes r.variable r.code r.count still going
