use Rattle.std.proofs.Common.{rules}
use Rattle.vcm_macro.proofs.order.is_open_behind.Goals as goal

pub returns-in-Macro : goal.returns-in-Macro
returns-in-Macro c = search rules

pub returns-in-MacroEnd : goal.returns-in-MacroEnd
returns-in-MacroEnd c = search rules

pub returns-in_default : goal.returns-in_default
returns-in_default c = search rules
