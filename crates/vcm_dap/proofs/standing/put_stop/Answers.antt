use Rattle.vcm_dap.proofs.Telling.{grown_none, grown_more, grown_then}
use Rattle.vcm_dap.proofs.standing.put_stop.Goals as goal

pub returns : goal.returns
returns c =
    grown_then _ _ _ _ (grown_more _ _ _ _ (grown_more _ _ _ _ (grown_more _ _ _ _ (grown_none _) c.in_ok-text.ensures) c.in_ok-bytes.ensures) c.in_ok-bytes-2.ensures) c.put_still.ensures
