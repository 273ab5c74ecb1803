use Rattle.std.proofs.Common.{rules}
use Rattle.vcm_print.proofs.names.write_variable.Goals as goal

pub returns : goal.returns
returns g c = search rules
