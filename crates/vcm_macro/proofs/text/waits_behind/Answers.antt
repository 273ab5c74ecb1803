use Rattle.std.proofs.Common.{rules}
use Rattle.vcm_macro.proofs.text.waits_behind.Goals as goal

pub returns-in-Choose : goal.returns-in-Choose
returns-in-Choose c = search rules

pub returns-in-Choose-2 : goal.returns-in-Choose-2
returns-in-Choose-2 c = search rules
