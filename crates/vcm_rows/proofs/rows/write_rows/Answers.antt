use Rattle.std.proofs.Common.{refl}
use Rattle.std.proofs.lemmas.Result.{err_from_is_err_and}
use Rattle.vcm_num.proofs.KnownWrites.{front_then, front_first}
use Rattle.vcm_rows.proofs.RowLemmas.{flat_cut}
use Rattle.vcm_rows.proofs.rows.write_rows.Goals as goal

pub returns-in_err-write_row : goal.returns-in_err-write_row
returns-in_err-write_row g c =
    let p = err_from_is_err_and c.from_residual.result c.from_residual.ensures.1 in
    rw p.1 (front_then _ _ _ _ _ _ (flat_cut (g.R.Rows.row_of c.args.rows.now) c.args.things.now c.loop-thing.thing-index _ c.loop-thing-test.true) c.loop-thing.invariant.written
    (front_first _ _ _ _ _ refl (rw c.thing-item.is at c.in_err-write_row.ensures)))
