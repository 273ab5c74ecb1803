use Rattle.std.proofs.Common.{rules}
use Rattle.vcm_macro.proofs.kept.is_kept.Goals as goal

pub returns-in-Declaration : goal.returns-in-Declaration
returns-in-Declaration c = search rules

pub returns-in_default : goal.returns-in_default
returns-in_default c = search rules
