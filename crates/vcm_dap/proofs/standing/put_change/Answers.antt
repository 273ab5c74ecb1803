use Rattle.vcm_dap.proofs.Telling.{grown_none, grown_more}
use Rattle.vcm_dap.proofs.standing.put_change.Goals as goal

pub returns : goal.returns
returns g c = grown_more _ _ _ _ (grown_more _ _ _ _ (grown_more _ _ _ _ (grown_none _) c.in_ok-text.ensures) c.in_ok-bytes.ensures) c.in_ok-bytes-2.ensures
