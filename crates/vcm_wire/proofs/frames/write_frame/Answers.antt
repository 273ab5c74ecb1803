use Rattle.std.proofs.Common.{decimal, length, refl}
use Rattle.std.proofs.lemmas.Result.{err_from_is_err_and}
use Rattle.vcm_num.proofs.KnownWrites.{front_first, front_then}
use Rattle.vcm_wire.specs.Frames.{head}
use Rattle.vcm_wire.proofs.Sending.{front_sent, all_sent}
use Rattle.vcm_wire.proofs.frames.write_frame.Goals as goal

pub returns-in_err-write_head : goal.returns-in_err-write_head
returns-in_err-write_head g c =
    let p = err_from_is_err_and c.from_residual.result c.from_residual.ensures.1 in
    rw p.1 (front_sent _ _ _ (front_first _ _ (head (decimal (length c.args.message.now))) c.args.message.now _ refl c.in_err-write_head.ensures))

pub returns-in_err-write_all : goal.returns-in_err-write_all
returns-in_err-write_all g c =
    let p = err_from_is_err_and c.from_residual-in_err-write_all.result c.from_residual-in_err-write_all.ensures.1 in
    rw p.1 (front_sent _ _ _ (front_then _ _ _ (head (decimal (length c.args.message.now))) c.args.message.now _ refl c.in_ok-write_head.ensures c.in_err-write_all.ensures))

pub returns : goal.returns
returns g c = all_sent _ _ _ _ (head (decimal (length c.args.message.now))) c.args.message.now _ _ refl c.in_ok-write_head.ensures c.in_ok-write_all.ensures c.flush.ensures
