use Rattle.std.proofs.Common.{drop, ◌+◌}
use Rattle.std.proofs.lemmas.List.{at_drop_more}
use Rattle.std.proofs.lemmas.Result.{err_from_is_err_and}
use Rattle.vcm_print.proofs.Lines.{bytes_of}
use Rattle.vcm_print.proofs.Steps.{took_more, took_front}
use Rattle.vcm_print.proofs.statement.write_fields.Goals as goal

pub returns-in_err-write_field : goal.returns-in_err-write_field
returns-in_err-write_field g c =
    let p = err_from_is_err_and c.from_residual.result c.from_residual.ensures.1 in
    rw p.1 (took_front _ _ _ _ (bytes_of (drop (c.loop-field.field-index + 1) c.args.fields.now)) (bytes_of (drop c.loop-field.field-index c.args.fields.now)) _
    (at_drop_more bytes_of c.args.fields.now c.loop-field.field-index c.field-item.result c.loop-field-test.true) c.loop-field.invariant
    (rw c.field-item.is at c.in_err-write_field.ensures))

pub loop-field-preserved : goal.loop-field-preserved
loop-field-preserved g c =
    took_more _ _ _ _ (bytes_of (drop (c.loop-field.field-index + 1) c.args.fields.now)) (bytes_of (drop c.loop-field.field-index c.args.fields.now)) _
    (at_drop_more bytes_of c.args.fields.now c.loop-field.field-index c.field-item.result c.loop-field-test.true) c.loop-field.invariant
    (rw c.field-item.is at c.in_ok-write_field.ensures)
