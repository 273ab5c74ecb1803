use Rattle.std.proofs.Common.{refl}
use Rattle.std.proofs.lemmas.Result.{err_from_is_err_and}
use Rattle.vcm_num.proofs.KnownWrites.{front_first, wrote_then}
use Rattle.vcm_rows.proofs.part_rows.write_part.Goals as goal

pub returns-in_err-write_bounds : goal.returns-in_err-write_bounds
returns-in_err-write_bounds g c =
    let p = err_from_is_err_and c.from_residual.result c.from_residual.ensures.1 in
    rw p.1 (front_first _ _ _ _ _ refl (rw c.bounds.ensures.bounds at c.in_err-write_bounds.ensures))

pub returns : goal.returns
returns g c = wrote_then _ _ _ _ _ _ _ refl (rw c.bounds.ensures.bounds at c.in_ok-write_bounds.ensures) ((rw c.blocks-2.ensures.blocks at c.write_rows.ensures))
