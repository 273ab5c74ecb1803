use Rattle.std.proofs.Common.{refl}
use Rattle.std.proofs.lemmas.Result.{err_from_is_err_and}
use Rattle.vcm_num.proofs.KnownWrites.{front_first, front_then, wrote_then}
use Rattle.vcm_why.proofs.hints.write_limits.Goals as goal

pub returns-in_err-write_limit : goal.returns-in_err-write_limit
returns-in_err-write_limit g c =
    let p = err_from_is_err_and c.from_residual.result c.from_residual.ensures.1 in rw p.1 (front_first _ _ _ _ _ refl c.in_err-write_limit.ensures)

pub returns-in_err-write_limit-2 : goal.returns-in_err-write_limit-2
returns-in_err-write_limit-2 g c =
    let p = err_from_is_err_and c.from_residual-in_err-write_limit-2.result c.from_residual-in_err-write_limit-2.ensures.1 in
    rw p.1 (front_then _ _ _ _ _ _ refl c.in_ok-write_limit.ensures (front_first _ _ _ _ _ refl c.in_err-write_limit-2.ensures))

pub returns : goal.returns
returns g c = wrote_then _ _ _ _ _ _ _ refl c.in_ok-write_limit.ensures (wrote_then _ _ _ _ _ _ _ refl c.in_ok-write_limit-2.ensures c.write_limit-3.ensures)
