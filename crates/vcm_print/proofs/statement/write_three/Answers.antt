use Rattle.std.proofs.Common.{refl}
use Rattle.std.proofs.lemmas.Result.{err_from_is_err_and}
use Rattle.vcm_num.proofs.KnownWrites.{front_first, front_then, wrote_then}
use Rattle.vcm_print.proofs.statement.write_three.Goals as goal

pub returns-in_err-write_items : goal.returns-in_err-write_items
returns-in_err-write_items g c =
    let p = err_from_is_err_and c.from_residual.result c.from_residual.ensures.1 in
    rw p.1 (front_first _ _ _ _ _ refl c.in_err-write_items.ensures)

pub returns-in_err-write_items-2 : goal.returns-in_err-write_items-2
returns-in_err-write_items-2 g c =
    let p = err_from_is_err_and c.from_residual-in_err-write_items-2.result c.from_residual-in_err-write_items-2.ensures.1 in
    rw p.1 (front_then _ _ _ _ _ _ refl c.in_ok-write_items.ensures (front_first _ _ _ _ _ refl c.in_err-write_items-2.ensures))

pub returns : goal.returns
returns g c =
    wrote_then _ _ _ _ _ _ _ refl c.in_ok-write_items.ensures (wrote_then _ _ _ _ _ _ _ refl c.in_ok-write_items-2.ensures c.write_items-3.ensures)
