use Rattle.std.proofs.Common.{refl}
use Rattle.std.proofs.lemmas.Result.{err_from_is_err_and}
use Rattle.vcm_num.proofs.KnownWrites.{front_first, front_then, wrote_then}
use Rattle.vcm_story.proofs.state_rows.write_variable_row.Goals as goal

pub returns-in_err-write_all : goal.returns-in_err-write_all
returns-in_err-write_all g c =
    let p = err_from_is_err_and c.from_residual.result c.from_residual.ensures.1 in
    rw p.1 (front_first _ _ _ _ _ refl c.in_err-write_all.ensures)

pub returns-in_err-write_variable : goal.returns-in_err-write_variable
returns-in_err-write_variable g c =
    let p = err_from_is_err_and c.from_residual-in_err-write_variable.result c.from_residual-in_err-write_variable.ensures.1 in
    rw p.1 (front_then _ _ _ _ _ _ refl c.in_ok-write_all.ensures (front_first _ _ _ _ _ refl (rw c.tables.ensures at c.in_err-write_variable.ensures)))

pub returns-in_err-write_kind : goal.returns-in_err-write_kind
returns-in_err-write_kind g c =
    let p = err_from_is_err_and c.from_residual-in_err-write_kind.result c.from_residual-in_err-write_kind.ensures.1 in
    rw p.1 (front_then _ _ _ _ _ _ refl c.in_ok-write_all.ensures
    (front_then _ _ _ _ _ _ refl (rw c.tables.ensures at c.in_ok-write_variable.ensures)
    (front_first _ _ _ _ _ refl (rw (c.variables.ensures, c.tables-2.ensures) at c.in_err-write_kind.ensures))))

pub returns-in_err-write_value : goal.returns-in_err-write_value
returns-in_err-write_value g c =
    let p = err_from_is_err_and c.from_residual-in_err-write_value.result c.from_residual-in_err-write_value.ensures.1 in
    rw p.1 (front_then _ _ _ _ _ _ refl c.in_ok-write_all.ensures
    (front_then _ _ _ _ _ _ refl (rw c.tables.ensures at c.in_ok-write_variable.ensures)
    (front_then _ _ _ _ _ _ refl (rw (c.variables.ensures, c.tables-2.ensures) at c.in_ok-write_kind.ensures)
    (front_first _ _ _ _ _ refl c.in_err-write_value.ensures))))

pub returns : goal.returns
returns g c = wrote_then _ _ _ _ _ _ _ refl c.in_ok-write_all.ensures
    (wrote_then _ _ _ _ _ _ _ refl (rw c.tables.ensures at c.in_ok-write_variable.ensures)
    (wrote_then _ _ _ _ _ _ _ refl (rw (c.variables.ensures, c.tables-2.ensures) at c.in_ok-write_kind.ensures)
    (wrote_then _ _ _ _ _ _ _ refl c.in_ok-write_value.ensures (c.write_all-2.ensures))))
