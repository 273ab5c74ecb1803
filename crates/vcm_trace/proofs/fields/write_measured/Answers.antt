use Rattle.std.proofs.Common.{refl, ap, ◌∙◌}
use Rattle.std.proofs.lemmas.Result.{err_from_is_err_and}
use Rattle.vcm_num.proofs.KnownWrites.{front_first, wrote_then}
use Rattle.vcm_spec.specs.Effect.{at_index}
use Rattle.vcm_report.specs.Printed.{name_at}
use Rattle.vcm_trace.proofs.fields.write_measured.Goals as goal

pub returns-in_err-write_bracketed : goal.returns-in_err-write_bracketed
returns-in_err-write_bracketed g c =
    let p = err_from_is_err_and c.from_residual.result c.from_residual.ensures.1 in
    let name = c.name_at.ensures ∙ ap (λ l. name_at l c.args.index) (c.features.ensures ∙ ap (λ t. t.features) c.tables.ensures) in
    rw p.1 (front_first _ _ _ _ _ refl (rw (c.letters.ensures, name) at c.in_err-write_bracketed.ensures))

pub returns : goal.returns
returns g c =
    let name = c.name_at.ensures ∙ ap (λ l. name_at l c.args.index) (c.features.ensures ∙ ap (λ t. t.features) c.tables.ensures) in
    let feature = c.feature_at-feature.ensures ∙ ap (λ l. at_index l c.args.index) c.actual.ensures in
    wrote_then _ _ _ _ _ _ _ refl (rw (c.letters.ensures, name) at c.in_ok-write_bracketed.ensures) (rw feature at c.write_touched.ensures)
