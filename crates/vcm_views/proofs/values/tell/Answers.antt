use Rattle.std.proofs.Common.{refl}
use Rattle.vcm_num.proofs.KnownWrites.{front_then}
use Rattle.vcm_views.proofs.values.tell.Goals as goal

pub returns-in-Err-clause-fault : goal.returns-in-Err-clause-fault
returns-in-Err-clause-fault g c =
    front_then _ _ _ _ _ _ refl c.in-Ok.ensures (rw c.tables.ensures at (rw c.variables.ensures.values at c.in-Err.ensures))
