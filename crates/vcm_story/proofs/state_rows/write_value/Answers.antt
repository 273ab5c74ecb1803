use Rattle.std.proofs.Common.{ap, ◌∙◌, rules, w64, FitsSigned, to_z-of_z, pos, unwrap_or, slice_get}
use Rattle.vcm_story.proofs.state_rows.write_value.Goals as goal

pub returns : goal.returns
returns g c =
    let fx : FitsSigned w64 c.value_at-value.result = search rules in
    let value = c.value_at-value.ensures ∙ ap (λ l. unwrap_or (slice_get l c.args.index) (pos 0)) c.variables.ensures.values in
    rw (to_z-of_z fx, c.tables.ensures, value) at c.write_variable_value.ensures
