use Rattle.std.proofs.Common.{rules}
use Rattle.vcm_run.proofs.image.run_image.Goals as goal

pub returns-clause-run : goal.returns-clause-run
returns-clause-run g c = search rules
