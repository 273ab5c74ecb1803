use Rattle.std.proofs.Common.{refl}
use Rattle.std.proofs.lemmas.Result.{err_from_is_err_and}
use Rattle.vcm_num.proofs.KnownWrites.{front_first, front_then, wrote_then}
use Rattle.vcm_trace.proofs.points.write_machine_fields.Goals as goal

pub returns-in_err-write_all : goal.returns-in_err-write_all
returns-in_err-write_all g c =
    let p = err_from_is_err_and c.from_residual.result c.from_residual.ensures.1 in
    rw p.1 (front_first _ _ _ _ _ refl c.in_err-write_all.ensures)

pub returns-in_err-write_machine_place : goal.returns-in_err-write_machine_place
returns-in_err-write_machine_place g c =
    let p = err_from_is_err_and c.from_residual-in_err-write_machine_place.result c.from_residual-in_err-write_machine_place.ensures.1 in
    rw p.1 (front_then _ _ _ _ _ _ refl c.in_ok-write_all.ensures (front_first _ _ _ _ _ refl c.in_err-write_machine_place.ensures))

pub returns : goal.returns
returns g c =
    wrote_then _ _ _ _ _ _ _ refl c.in_ok-write_all.ensures
    (wrote_then _ _ _ _ _ _ _ refl c.in_ok-write_machine_place.ensures (rw c.direction.ensures at c.write_direction.ensures))
