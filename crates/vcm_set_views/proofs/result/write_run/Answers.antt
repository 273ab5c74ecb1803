use Rattle.std.proofs.Common.{refl}
use Rattle.std.proofs.lemmas.Result.{err_from_is_err_and}
use Rattle.vcm_num.proofs.KnownWrites.{front_first, front_then, wrote_then}
use Rattle.vcm_set_views.proofs.result.write_run.Goals as goal

pub returns-in_err-write_lines : goal.returns-in_err-write_lines
returns-in_err-write_lines g c =
    let p = err_from_is_err_and c.from_residual.result c.from_residual.ensures.1 in
    rw p.1 (front_first _ _ _ _ _ refl (rw c.lines.ensures at c.in_err-write_lines.ensures))

pub returns-in_err-write_ended : goal.returns-in_err-write_ended
returns-in_err-write_ended g c =
    let p = err_from_is_err_and c.from_residual-in_err-write_ended.result c.from_residual-in_err-write_ended.ensures.1 in
    rw p.1 (front_then _ _ _ _ _ _ refl (rw c.lines.ensures at c.in_ok-write_lines.ensures) (front_first _ _ _ _ _ refl (rw c.tables.ensures at c.in_err-write_ended.ensures)))

pub returns-in_err-write_position : goal.returns-in_err-write_position
returns-in_err-write_position g c =
    let p = err_from_is_err_and c.from_residual-in_err-write_position.result c.from_residual-in_err-write_position.ensures.1 in
    rw p.1 (front_then _ _ _ _ _ _ refl (rw c.lines.ensures at c.in_ok-write_lines.ensures) (front_then _ _ _ _ _ _ refl (rw c.tables.ensures at c.in_ok-write_ended.ensures)
    (front_first _ _ _ _ _ refl (rw c.position.ensures at c.in_err-write_position.ensures))))

pub returns : goal.returns
returns g c =
    wrote_then _ _ _ _ _ _ _ refl (rw c.lines.ensures at c.in_ok-write_lines.ensures)
    (wrote_then _ _ _ _ _ _ _ refl (rw c.tables.ensures at c.in_ok-write_ended.ensures)
    (wrote_then _ _ _ _ _ _ _ refl (rw c.position.ensures at c.in_ok-write_position.ensures) c.write_steps.ensures))
