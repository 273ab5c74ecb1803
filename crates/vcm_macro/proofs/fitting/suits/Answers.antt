use Rattle.std.proofs.Common.{rules}
use Rattle.vcm_macro.proofs.fitting.suits.Goals as goal

pub returns-in-Name : goal.returns-in-Name
returns-in-Name c = search rules

pub returns-in-Variable : goal.returns-in-Variable
returns-in-Variable c = search rules

pub returns-in-Value : goal.returns-in-Value
returns-in-Value c = search rules
