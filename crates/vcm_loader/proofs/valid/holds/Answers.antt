use Rattle.vcm_loader.proofs.Holding.{held, not_held}
use Rattle.vcm_loader.proofs.valid.holds.Goals as goal

pub returns-in-Ok : goal.returns-in-Ok
returns-in-Ok c = held _ _ c.in-Ok.ensures.ok

pub returns-in-Err : goal.returns-in-Err
returns-in-Err c = not_held _ _ _ c.in-Err.ensures.err
