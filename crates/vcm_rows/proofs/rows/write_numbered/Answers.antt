use Rattle.std.proofs.lemmas.Result.{err_from_is_err_and}
use Rattle.vcm_rows.proofs.RowLemmas.{one_row, row_front}
use Rattle.vcm_rows.proofs.rows.write_numbered.Goals as goal

pub returns-in_err-write_row_at : goal.returns-in_err-write_row_at
returns-in_err-write_row_at g c =
    let p = err_from_is_err_and c.from_residual.result c.from_residual.ensures.1 in
    rw p.1 (row_front (g.R.Numbered.row_at c.args.rows.now) c.loop-number.number _ _ _ c.loop-number.invariant.written c.args.count c.loop-number-test.true c.in_err-write_row_at.ensures)

pub loop-number-preserved : goal.loop-number-preserved
loop-number-preserved g c = record {
  written = one_row (g.R.Numbered.row_at c.args.rows.now) c.loop-number.number _ _ _ c.loop-number.invariant.written c.in_ok-write_row_at.ensures;
}
