use Rattle.std.proofs.Common.{refl}
use Rattle.std.proofs.lemmas.Result.{err_from_is_err_and}
use Rattle.vcm_num.proofs.KnownWrites.{front_first, front_then, wrote_then}
use Rattle.vcm_trace.proofs.points.write_measured.Goals as goal

pub returns-in_err-write_nominal : goal.returns-in_err-write_nominal
returns-in_err-write_nominal g c =
    let p = err_from_is_err_and c.from_residual-in_err-write_nominal.result c.from_residual-in_err-write_nominal.ensures.1 in
    rw p.1 (front_then _ _ _ _ _ _ refl c.in_ok-write_front.ensures (front_first _ _ _ _ _ refl c.in_err-write_nominal.ensures))

pub returns : goal.returns
returns g c = wrote_then _ _ _ _ _ _ _ refl c.in_ok-write_front.ensures (wrote_then _ _ _ _ _ _ _ refl c.in_ok-write_nominal.ensures c.write_actual.ensures)
