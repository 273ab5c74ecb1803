use Rattle.std.proofs.Common.{rules}
use Rattle.vcm_trace.proofs.fields.setting_length.Goals as goal

pub returns-in-Retract : goal.returns-in-Retract
returns-in-Retract c = search rules
