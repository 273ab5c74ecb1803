use Rattle.std.proofs.Common.{refl}
use Rattle.std.proofs.lemmas.Result.{err_from_is_err_and}
use Rattle.vcm_num.proofs.KnownWrites.{front_first, front_then, wrote_then}
use Rattle.vcm_first_contact.proofs.lines.write_meeting.Goals as goal

pub returns-in_err-write_all : goal.returns-in_err-write_all
returns-in_err-write_all g c =
    let p = err_from_is_err_and c.from_residual.result c.from_residual.ensures.1 in
    rw p.1 (front_first _ _ _ _ _ refl c.in_err-write_all.ensures)

pub returns-in_err-write_all-2 : goal.returns-in_err-write_all-2
returns-in_err-write_all-2 g c =
    let p = err_from_is_err_and c.from_residual-in_err-write_all-2.result c.from_residual-in_err-write_all-2.ensures.1 in
    rw p.1 (front_then _ _ _ _ _ _ refl c.in_ok-write_all.ensures (front_first _ _ _ _ _ refl c.in_err-write_all-2.ensures))

pub returns-in_err-write_between : goal.returns-in_err-write_between
returns-in_err-write_between g c =
    let p = err_from_is_err_and c.from_residual-in_err-write_between.result c.from_residual-in_err-write_between.ensures.1 in
    rw p.1 (front_then _ _ _ _ _ _ refl c.in_ok-write_all.ensures (front_then _ _ _ _ _ _ refl c.in_ok-write_all-2.ensures (front_first _ _ _ _ _ refl c.in_err-write_between.ensures)))

pub returns : goal.returns
returns g c = wrote_then _ _ _ _ _ _ _ refl c.in_ok-write_all.ensures (wrote_then _ _ _ _ _ _ _ refl c.in_ok-write_all-2.ensures (wrote_then _ _ _ _ _ _ _ refl c.in_ok-write_between.ensures c.write_block_line.ensures))
