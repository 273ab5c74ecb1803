use Rattle.std.proofs.Common.{arith, length, ◌<◌}
use Rattle.std.proofs.lemmas.Result.{err_from_is_err_and}
use Rattle.vcm_words.specs.declared.row.Row.TheVariants.{Frame}
use Rattle.vcm_print.proofs.Lines.{frame_is}
use Rattle.vcm_print.proofs.Walks.{line_took, line_front}
use Rattle.vcm_print.proofs.printing.write_frames.Goals as goal

pub returns-in_err-write_name : goal.returns-in_err-write_name
returns-in_err-write_name g c =
    let p = err_from_is_err_and c.from_residual.result c.from_residual.ensures.1 in
    let below : c.loop-n.n < length c.args.loaded.now.tables.frames = omega (arith, c.frame_count-n-end.ensures, c.loop-n-test.true) in
    rw p.1 (line_front Frame c.loop-n.n c.args.loaded.now.tables.frames c.frame.result _ _ _ _ _ below c.frame.ensures (frame_is c.loop-n.n c.frame.result)
    c.loop-n.invariant (rw c.as_bytes.ensures at c.in_err-write_name.ensures))

pub loop-n-preserved : goal.loop-n-preserved
loop-n-preserved g c =
    let below : c.loop-n.n < length c.args.loaded.now.tables.frames = omega (arith, c.frame_count-n-end.ensures, c.loop-n-test.true) in
    line_took Frame c.loop-n.n c.args.loaded.now.tables.frames c.frame.result _ _ _ _ _ below c.frame.ensures (frame_is c.loop-n.n c.frame.result)
    c.loop-n.invariant (rw c.as_bytes.ensures at c.in_ok-write_name.ensures)
