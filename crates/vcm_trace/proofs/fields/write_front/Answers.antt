use Rattle.std.proofs.Common.{refl}
use Rattle.std.proofs.lemmas.Result.{err_from_is_err_and}
use Rattle.vcm_num.proofs.KnownWrites.{front_first, front_then, wrote_then}
use Rattle.vcm_trace.proofs.fields.write_front.Goals as goal

pub returns-in_err-write_numbers : goal.returns-in_err-write_numbers
returns-in_err-write_numbers g c =
    let p = err_from_is_err_and c.from_residual.result c.from_residual.ensures.1 in
    rw p.1 (front_first _ _ _ _ _ refl c.in_err-write_numbers.ensures)

pub returns-in_err-write_point : goal.returns-in_err-write_point
returns-in_err-write_point g c =
    let p = err_from_is_err_and c.from_residual-in_err-write_point.result c.from_residual-in_err-write_point.ensures.1 in
    rw p.1 (front_then _ _ _ _ _ _ refl c.in_ok-write_numbers.ensures (front_first _ _ _ _ _ refl c.in_err-write_point.ensures))

pub returns : goal.returns
returns g c = wrote_then _ _ _ _ _ _ _ refl c.in_ok-write_numbers.ensures (wrote_then _ _ _ _ _ _ _ refl c.in_ok-write_point.ensures c.write_all.ensures)
