use Rattle.vcm_dap.proofs.Told.{grown, adds_on}
use Rattle.vcm_dap.proofs.fronts.put_capabilities.Goals as goal

pub returns : goal.returns
returns c =
    adds_on _ _ _ _ _
    (grown _ _ _ _ (grown _ _ _ _ (grown _ _ _ _ c.in_ok-flag.ensures c.in_ok-flag-2.ensures) c.in_ok-flag-3.ensures) c.in_ok-flag-4.ensures)
    c.flag-5.ensures
