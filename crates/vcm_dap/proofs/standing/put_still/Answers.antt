use Rattle.vcm_dap.proofs.Telling.{grown_none, grown_more}
use Rattle.vcm_dap.proofs.standing.put_still.Goals as goal

pub returns : goal.returns
returns c = grown_more _ _ _ _ (grown_more _ _ _ _ (grown_none _) c.in_ok-number.ensures) c.in_ok-flag.ensures
