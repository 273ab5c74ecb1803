use Rattle.std.proofs.Common.{refl}
use Rattle.std.proofs.lemmas.Result.{err_from_is_err_and}
use Rattle.vcm_num.proofs.KnownWrites.{front_first, front_then, wrote_then}
use Rattle.vcm_trace.proofs.points.write_actual.Goals as goal

pub returns-in_err-write_place : goal.returns-in_err-write_place
returns-in_err-write_place g c =
    let p = err_from_is_err_and c.from_residual.result c.from_residual.ensures.1 in
    rw p.1 (front_first _ _ _ _ _ refl c.in_err-write_place.ensures)

pub returns-in_err-write_direction : goal.returns-in_err-write_direction
returns-in_err-write_direction g c =
    let p = err_from_is_err_and c.from_residual-in_err-write_direction.result c.from_residual-in_err-write_direction.ensures.1 in
    rw p.1 (front_then _ _ _ _ _ _ refl c.in_ok-write_place.ensures (front_first _ _ _ _ _ refl c.in_err-write_direction.ensures))

pub returns : goal.returns
returns g c = wrote_then _ _ _ _ _ _ _ refl c.in_ok-write_place.ensures (wrote_then _ _ _ _ _ _ _ refl c.in_ok-write_direction.ensures c.write_off.ensures)
