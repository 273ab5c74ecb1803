use Rattle.std.proofs.Common.{rules}
use Rattle.vcm_macro.proofs.fitting.suits_deep.Goals as goal

pub returns-in-Variable : goal.returns-in-Variable
returns-in-Variable c = search rules
