use Rattle.std.proofs.Common.{refl}
use Rattle.vcm_num.proofs.KnownWrites.{wrote_then}
use Rattle.vcm_trace.proofs.lines.write_done.Goals as goal

pub returns : goal.returns
returns g c = wrote_then _ _ _ _ _ _ _ refl (rw c.told_of.ensures at c.in_ok-write_told.ensures) c.write_all.ensures
