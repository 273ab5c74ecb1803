use Rattle.std.proofs.Common.{rules}
use Rattle.vcm_macro.proofs.blocks.Blocks.unbalances.Goals as goal

pub returns-in-Otherwise : goal.returns-in-Otherwise
returns-in-Otherwise c = search rules

pub returns-in-TestEnd : goal.returns-in-TestEnd
returns-in-TestEnd c = search rules

pub returns-in-RepeatEnd : goal.returns-in-RepeatEnd
returns-in-RepeatEnd c = search rules

pub returns-in-MeasureEnd : goal.returns-in-MeasureEnd
returns-in-MeasureEnd c = search rules

pub returns-in-MacroEnd : goal.returns-in-MacroEnd
returns-in-MacroEnd c = search rules
