use Rattle.std.proofs.Common.{rules}
use Rattle.vcm_job.proofs.running.status_of.Goals as goal

pub returns-in-None : goal.returns-in-None
returns-in-None c = search rules
