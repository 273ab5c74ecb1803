use Rattle.std.proofs.Common.{refl}
use Rattle.std.proofs.lemmas.Result.{err_from_is_err_and}
use Rattle.vcm_num.proofs.KnownWrites.{front_first, front_then, wrote_then}
use Rattle.vcm_first_contact.proofs.lines.write_obstacle.Goals as goal

pub returns-in_err-write_way : goal.returns-in_err-write_way
returns-in_err-write_way g c =
    let p = err_from_is_err_and c.from_residual.result c.from_residual.ensures.1 in
    rw p.1 (front_first _ _ _ _ _ refl c.in_err-write_way.ensures)

pub returns-in_err-write_meeting : goal.returns-in_err-write_meeting
returns-in_err-write_meeting g c =
    let p = err_from_is_err_and c.from_residual-in_err-write_meeting.result c.from_residual-in_err-write_meeting.ensures.1 in
    rw p.1 (front_then _ _ _ _ _ _ refl c.in_ok-write_way.ensures (front_first _ _ _ _ _ refl c.in_err-write_meeting.ensures))

pub returns : goal.returns
returns g c = wrote_then _ _ _ _ _ _ _ refl c.in_ok-write_way.ensures (wrote_then _ _ _ _ _ _ _ refl c.in_ok-write_meeting.ensures c.write_free.ensures)
