use Rattle.vcm_console.proofs.OneLine.{one_line}
use Rattle.vcm_console.proofs.laws.lines_are_one.Goals as goal

pub returns : goal.returns
returns c = one_line
