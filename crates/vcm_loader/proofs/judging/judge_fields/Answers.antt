use Rattle.std.proofs.Common.{[]}
use Rattle.std.proofs.lemmas.Option.{slice_get-get_or}
use Rattle.std.proofs.lemmas.Result.{err_from_is_err_and}
use Rattle.vcm_fields.specs.Fields.{in_field}
use Rattle.vcm_code.specs.Checks.{place_checks}
use Rattle.vcm_loader.proofs.Lines.{held_more, first_of}
use Rattle.vcm_loader.proofs.judging.judge_fields.Goals as goal

pub returns-in_err-judge_field-clause-err : goal.returns-in_err-judge_field-clause-err
returns-in_err-judge_field-clause-err g c =
    let p = err_from_is_err_and c.from_residual.result c.from_residual.ensures.1 in
    let wanted = in_field g.E.Typed.items (λ t. []) g.B.Aimed.branches
    (place_checks (record { kinds = c.args.kinds.now; features = c.args.features; frames = c.args.frames; statements = c.args.statements })) in
    let there = slice_get-get_or c.args.fields.now c.loop-field.field-index c.field-item.result c.loop-field-test.true in
    rw (p.1, p.2) (first_of wanted c.args.fields.now c.loop-field.field-index _ c.in_err-judge_field.field-0.0 c.loop-field.invariant there (rw c.field-item.is at c.in_err-judge_field.ensures.err))

pub loop-field-preserved : goal.loop-field-preserved
loop-field-preserved g c =
    let wanted = in_field g.E.Typed.items (λ t. []) g.B.Aimed.branches
    (place_checks (record { kinds = c.args.kinds.now; features = c.args.features; frames = c.args.frames; statements = c.args.statements })) in
    let there = slice_get-get_or c.args.fields.now c.loop-field.field-index c.field-item.result c.loop-field-test.true in
    held_more wanted c.args.fields.now c.loop-field.field-index _ c.loop-field.invariant there (rw c.field-item.is at c.in_ok-judge_field.ensures.ok)
