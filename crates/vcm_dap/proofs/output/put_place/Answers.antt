use Rattle.vcm_dap.proofs.Telling.{grown_none, grown_more}
use Rattle.vcm_dap.proofs.output.put_place.Goals as goal

pub returns-in_default : goal.returns-in_default
returns-in_default g c = grown_none _

pub returns : goal.returns
returns g c = grown_more _ _ _ _ (grown_more _ _ _ _
    (grown_more _ _ _ _ (grown_more _ _ _ _ (grown_more _ _ _ _ (grown_none _) c.in_ok-begin_member.ensures) c.in_ok-text.ensures) c.in_ok-text-2.ensures)
    c.in_ok-end.ensures) c.in_ok-number.ensures
