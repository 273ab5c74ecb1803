use Rattle.std.proofs.Common.{rules}
use Rattle.vcm_macro.proofs.order.is_out_of_place.Goals as goal

pub returns-in-Opening : goal.returns-in-Opening
returns-in-Opening c = search rules

pub returns-in-Measures : goal.returns-in-Measures
returns-in-Measures c = search rules

pub returns-in-Measures-2 : goal.returns-in-Measures-2
returns-in-Measures-2 c = search rules

pub returns-in-Measures-3 : goal.returns-in-Measures-3
returns-in-Measures-3 c = search rules

pub returns-in-MacroEnd : goal.returns-in-MacroEnd
returns-in-MacroEnd c = search rules

pub returns-in_default : goal.returns-in_default
returns-in_default c = search rules
