use Rattle.vcm_dap.proofs.Items.{lines_once}
use Rattle.vcm_dap.proofs.laws.lines_are_one.Goals as goal

pub returns : goal.returns
returns c = lines_once
