use Rattle.std.proofs.Common.{rules}
use Rattle.vcm_code.proofs.copying.simple.Goals as goal

pub returns-in_ok-to-in-Goto : goal.returns-in_ok-to-in-Goto
returns-in_ok-to-in-Goto g c = search rules
