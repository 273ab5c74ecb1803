use Rattle.std.proofs.Common.{refl}
use Rattle.std.proofs.lemmas.Result.{err_from_is_err_and}
use Rattle.vcm_num.proofs.KnownWrites.{front_first, front_then, wrote_then}
use Rattle.vcm_story.proofs.step_rows.write_step_rows.Goals as goal

pub returns-in_err-write_step : goal.returns-in_err-write_step
returns-in_err-write_step g c = λ before.
    let p = err_from_is_err_and c.from_residual.result c.from_residual.ensures.1 in
    rw p.1 (front_first _ _ _ _ _ refl c.in_err-write_step.ensures)

pub returns-in_err-write_way : goal.returns-in_err-write_way
returns-in_err-write_way g c = λ before.
    let p = err_from_is_err_and c.from_residual-in_err-write_way.result c.from_residual-in_err-write_way.ensures.1 in
    rw p.1 (front_then _ _ _ _ _ _ refl c.in_ok-write_step.ensures (front_first _ _ _ _ _ refl (rw c.told_of-told.ensures at c.in_err-write_way.ensures)))

pub returns : goal.returns
returns g c = λ before.
    wrote_then _ _ _ _ _ _ _ refl c.in_ok-write_step.ensures
    (wrote_then _ _ _ _ _ _ _ refl (rw c.told_of-told.ensures at c.in_ok-write_way.ensures) (rw c.told_of-told.ensures at c.write_changes.ensures))
