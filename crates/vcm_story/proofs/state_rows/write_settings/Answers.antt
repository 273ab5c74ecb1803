use Rattle.std.proofs.Common.{refl}
use Rattle.std.proofs.lemmas.Result.{err_from_is_err_and}
use Rattle.vcm_num.proofs.KnownWrites.{front_first, front_then, wrote_then}
use Rattle.vcm_story.proofs.state_rows.write_settings.Goals as goal

pub returns-in_err-write_setting : goal.returns-in_err-write_setting
returns-in_err-write_setting g c =
    let p = err_from_is_err_and c.from_residual.result c.from_residual.ensures.1 in
    rw p.1 (front_first _ _ _ _ _ refl (rw c.approach.ensures.value at c.in_err-write_setting.ensures))

pub returns-in_err-write_setting-2 : goal.returns-in_err-write_setting-2
returns-in_err-write_setting-2 g c =
    let p = err_from_is_err_and c.from_residual-in_err-write_setting-2.result c.from_residual-in_err-write_setting-2.ensures.1 in
    rw p.1 (front_then _ _ _ _ _ _ refl (rw c.approach.ensures.value at c.in_ok-write_setting.ensures) (front_first _ _ _ _ _ refl (rw c.retract.ensures.value at c.in_err-write_setting-2.ensures)))

pub returns-in_err-write_setting-3 : goal.returns-in_err-write_setting-3
returns-in_err-write_setting-3 g c =
    let p = err_from_is_err_and c.from_residual-in_err-write_setting-3.result c.from_residual-in_err-write_setting-3.ensures.1 in
    rw p.1 (front_then _ _ _ _ _ _ refl (rw c.approach.ensures.value at c.in_ok-write_setting.ensures)
    (front_then _ _ _ _ _ _ refl (rw c.retract.ensures.value at c.in_ok-write_setting-2.ensures)
    (front_first _ _ _ _ _ refl (rw c.search.ensures.value at c.in_err-write_setting-3.ensures))))

pub returns : goal.returns
returns g c = wrote_then _ _ _ _ _ _ _ refl (rw c.approach.ensures.value at c.in_ok-write_setting.ensures)
    (wrote_then _ _ _ _ _ _ _ refl (rw c.retract.ensures.value at c.in_ok-write_setting-2.ensures)
    (wrote_then _ _ _ _ _ _ _ refl (rw c.search.ensures.value at c.in_ok-write_setting-3.ensures) ((rw c.depth.ensures.value at c.write_setting-4.ensures))))
