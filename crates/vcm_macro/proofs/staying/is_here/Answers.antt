use Rattle.std.proofs.Common.{rules}
use Rattle.vcm_macro.proofs.staying.is_here.Goals as goal

pub returns-in-Variable : goal.returns-in-Variable
returns-in-Variable c = search rules
