use Rattle.std.proofs.Common.{refl}
use Rattle.std.proofs.lemmas.Result.{err_from_is_err_and}
use Rattle.vcm_num.proofs.KnownWrites.{front_first, front_then, wrote_then}
use Rattle.vcm_first_contact.proofs.lines.write_first.Goals as goal

pub returns-in_err-write_named : goal.returns-in_err-write_named
returns-in_err-write_named g c =
    let p = err_from_is_err_and c.from_residual.result c.from_residual.ensures.1 in
    rw p.1 (front_first _ _ _ _ _ refl c.in_err-write_named.ensures)

pub returns-in_err-write_where : goal.returns-in_err-write_where
returns-in_err-write_where g c =
    let p = err_from_is_err_and c.from_residual-in_err-write_where.result c.from_residual-in_err-write_where.ensures.1 in
    rw p.1 (front_then _ _ _ _ _ _ refl c.in_ok-write_named.ensures (front_first _ _ _ _ _ refl c.in_err-write_where.ensures))

pub returns : goal.returns
returns g c = wrote_then _ _ _ _ _ _ _ refl c.in_ok-write_named.ensures (wrote_then _ _ _ _ _ _ _ refl c.in_ok-write_where.ensures c.write_obstacle_if.ensures)
