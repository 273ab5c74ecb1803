use Rattle.std.proofs.Common.{refl}
use Rattle.vcm_num.proofs.KnownWrites.{wrote_then}
use Rattle.vcm_margin.proofs.printing.write_seen.Goals as goal

pub returns : goal.returns
returns g c = wrote_then _ _ _ _ _ _ _ refl c.in_ok-write_difference.ensures c.write_place_reached.ensures
