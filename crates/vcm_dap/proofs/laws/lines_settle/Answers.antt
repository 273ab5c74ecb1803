use Rattle.vcm_dap.proofs.Settling.{settles}
use Rattle.vcm_dap.proofs.laws.lines_settle.Goals as goal

pub returns : goal.returns
returns c = settles
