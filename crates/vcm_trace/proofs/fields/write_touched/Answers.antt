use Rattle.std.proofs.Common.{refl}
use Rattle.vcm_num.proofs.KnownWrites.{wrote_then}
use Rattle.vcm_trace.proofs.fields.write_touched.Goals as goal

pub returns-in_ok-write_all-in-Some : goal.returns-in_ok-write_all-in-Some
returns-in_ok-write_all-in-Some g c = rw c.in-Some.is (wrote_then _ _ _ _ _ _ _ refl c.in_ok-write_all-in-Some.ensures c.write_point.ensures)
