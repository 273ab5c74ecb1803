use Rattle.std.proofs.Common.{refl}
use Rattle.vcm_num.proofs.KnownWrites.{wrote_then}
use Rattle.vcm_trace.proofs.lines.write_open.Goals as goal

pub returns : goal.returns
returns g c = wrote_then _ _ _ _ _ _ _ refl (rw c.position.ensures at c.in_ok-write_front.ensures) c.write_no_stop.ensures
