use Rattle.std.proofs.Common.{rules}
use Rattle.vcm_report.proofs.stops.write_missing.Goals as goal

pub returns-in-Nominal : goal.returns-in-Nominal
returns-in-Nominal g c = search rules
