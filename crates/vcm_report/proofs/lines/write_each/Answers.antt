use Rattle.std.proofs.Common.{refl}
use Rattle.std.proofs.lemmas.Result.{err_from_is_err_and}
use Rattle.vcm_num.proofs.KnownWrites.{front_then, front_first}
use Rattle.vcm_report.proofs.LinesWritten.{lines_cut}
use Rattle.vcm_report.proofs.lines.write_each.Goals as goal

pub returns-in_err-write_pieces : goal.returns-in_err-write_pieces
returns-in_err-write_pieces g c =
    let p = err_from_is_err_and c.from_residual.result c.from_residual.ensures.1 in
    rw p.1 (front_then _ _ _ _ _ _ (lines_cut c.args.lines.now c.loop-line.line-index _ c.loop-line-test.true) c.loop-line.invariant.written
    (front_first _ _ _ _ _ refl (rw (c.as_bytes.ensures, c.line-item.is) at c.in_err-write_pieces.ensures)))
