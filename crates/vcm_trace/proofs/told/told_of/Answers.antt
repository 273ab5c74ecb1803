use Rattle.std.proofs.Common.{rules}
use Rattle.vcm_trace.proofs.told.told_of.Goals as goal

pub returns-in-EndDo : goal.returns-in-EndDo
returns-in-EndDo c = search rules
