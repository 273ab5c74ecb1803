use Rattle.std.proofs.Common.{refl}
use Rattle.std.proofs.lemmas.Result.{err_from_is_err_and}
use Rattle.vcm_num.proofs.KnownWrites.{front_first, wrote_then}
use Rattle.vcm_trace.proofs.points.write_off.Goals as goal

pub returns-in_err-write_length : goal.returns-in_err-write_length
returns-in_err-write_length g c =
    let p = err_from_is_err_and c.from_residual.result c.from_residual.ensures.1 in
    rw p.1 (front_first _ _ _ _ _ refl (rw c.off_by.ensures at c.in_err-write_length.ensures))

pub returns : goal.returns
returns g c =
    wrote_then _ _ _ _ _ _ _ refl (rw c.off_by.ensures at c.in_ok-write_length.ensures) (rw c.beside.ensures at c.write_beside.ensures)
