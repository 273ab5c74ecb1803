use Rattle.std.proofs.Common.{refl}
use Rattle.std.proofs.lemmas.Result.{err_from_is_err_and}
use Rattle.vcm_num.proofs.KnownWrites.{front_first, front_then, wrote_then}
use Rattle.vcm_story.proofs.state_rows.write_state.Goals as goal

pub returns-in_err-write_variables : goal.returns-in_err-write_variables
returns-in_err-write_variables g c =
    let p = err_from_is_err_and c.from_residual.result c.from_residual.ensures.1 in
    rw p.1 (front_first _ _ _ _ _ refl c.in_err-write_variables.ensures)

pub returns-in_err-write_settings : goal.returns-in_err-write_settings
returns-in_err-write_settings g c =
    let p = err_from_is_err_and c.from_residual-in_err-write_settings.result c.from_residual-in_err-write_settings.ensures.1 in
    rw p.1 (front_then _ _ _ _ _ _ refl c.in_ok-write_variables.ensures (front_first _ _ _ _ _ refl (rw c.settings.ensures at c.in_err-write_settings.ensures)))

pub returns-in_err-write_features : goal.returns-in_err-write_features
returns-in_err-write_features g c =
    let p = err_from_is_err_and c.from_residual-in_err-write_features.result c.from_residual-in_err-write_features.ensures.1 in
    rw p.1 (front_then _ _ _ _ _ _ refl c.in_ok-write_variables.ensures
    (front_then _ _ _ _ _ _ refl (rw c.settings.ensures at c.in_ok-write_settings.ensures) (front_first _ _ _ _ _ refl c.in_err-write_features.ensures)))

pub returns : goal.returns
returns g c = wrote_then _ _ _ _ _ _ _ refl c.in_ok-write_variables.ensures
    (wrote_then _ _ _ _ _ _ _ refl (rw c.settings.ensures at c.in_ok-write_settings.ensures)
    (wrote_then _ _ _ _ _ _ _ refl c.in_ok-write_features.ensures (c.write_standing.ensures)))
