use Rattle.std.proofs.Common.{rules}
use Rattle.vcm_macro.proofs.fitting.assigns.Goals as goal

pub returns-in-Assignment : goal.returns-in-Assignment
returns-in-Assignment c = search rules

pub returns-in-Query : goal.returns-in-Query
returns-in-Query c = search rules

pub returns-in-Repeat : goal.returns-in-Repeat
returns-in-Repeat c = search rules

pub returns-in_default : goal.returns-in_default
returns-in_default c = search rules
