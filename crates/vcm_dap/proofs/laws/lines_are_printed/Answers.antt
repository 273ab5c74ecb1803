use Rattle.vcm_dap.proofs.Telling.{printed}
use Rattle.vcm_dap.proofs.laws.lines_are_printed.Goals as goal

pub returns : goal.returns
returns c = printed
