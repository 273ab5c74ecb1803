use Rattle.std.proofs.Common.{rules}
use Rattle.vcm_margin.proofs.printing.write_wider.Goals as goal

pub returns : goal.returns
returns g c = search rules
