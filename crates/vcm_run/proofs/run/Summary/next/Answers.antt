use Rattle.std.proofs.Common.{rules}
use Rattle.vcm_run.proofs.run.Summary.next.Goals as goal

pub returns : goal.returns
returns c = search rules
