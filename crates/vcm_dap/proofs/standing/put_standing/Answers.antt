use Rattle.vcm_dap.proofs.Telling.{grown_then}
use Rattle.vcm_dap.proofs.standing.put_standing.Goals as goal

pub returns : goal.returns
returns g c = grown_then _ _ _ _ c.in_ok-put_why.ensures c.put_still.ensures
