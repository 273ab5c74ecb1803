use Rattle.std.proofs.Common.{refl}
use Rattle.std.proofs.lemmas.Result.{err_from_is_err_and}
use Rattle.vcm_num.proofs.KnownWrites.{front_first, front_then, wrote_then}
use Rattle.vcm_fields.proofs.FieldPlaces.{over_fields}
use Rattle.vcm_print.specs.inner.Written.{place_bytes}
use Rattle.vcm_print.proofs.statement.write_line.Goals as goal

pub returns-in_err-write_head : goal.returns-in_err-write_head
returns-in_err-write_head g c =
    let p = err_from_is_err_and c.from_residual.result c.from_residual.ensures.1 in
    rw p.1 (front_first _ _ _ _ _ refl (rw c.word.ensures at c.in_err-write_head.ensures))

pub returns-in_err-write_fields : goal.returns-in_err-write_fields
returns-in_err-write_fields g c =
    let p = err_from_is_err_and c.from_residual-in_err-write_fields.result c.from_residual-in_err-write_fields.ensures.1 in
    rw p.1 (front_then _ _ _ _ _ _ refl (rw c.word.ensures at c.in_ok-write_head.ensures)
    (front_first _ _ _ _ _ refl (rw (over_fields place_bytes _ _ c.fields_of.ensures) at c.in_err-write_fields.ensures)))

pub returns : goal.returns
returns g c =
    wrote_then _ _ _ _ _ _ _ refl (rw c.word.ensures at c.in_ok-write_head.ensures)
    (wrote_then _ _ _ _ _ _ _ refl (rw (over_fields place_bytes _ _ c.fields_of.ensures) at c.in_ok-write_fields.ensures) c.write_all.ensures)
