use Rattle.std.proofs.Common.{rules}
use Rattle.vcm_report.proofs.lines.write_last_lines.Goals as goal

pub returns : goal.returns
returns g c = search rules
