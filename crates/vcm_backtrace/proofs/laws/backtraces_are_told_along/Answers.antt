use Rattle.vcm_backtrace.proofs.Along.{backtraces_told}
use Rattle.vcm_backtrace.proofs.laws.backtraces_are_told_along.Goals as goal

pub returns : goal.returns
returns c = backtraces_told
