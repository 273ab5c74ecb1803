use Rattle.std.proofs.Common.{rules}
use Rattle.vcm_job.proofs.checking.counted.Goals as goal

pub returns-clause-counted : goal.returns-clause-counted
returns-clause-counted c = search rules
