use Rattle.std.proofs.Common.{refl}
use Rattle.vcm_num.proofs.KnownWrites.{wrote_then}
use Rattle.vcm_backtrace.proofs.calls.write_call.Goals as goal

pub returns : goal.returns
returns g c = wrote_then _ _ _ _ _ _ _ refl c.in_ok-write_front.ensures c.write_line.ensures
