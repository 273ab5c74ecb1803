use Rattle.std.proofs.Common.{refl}
use Rattle.std.proofs.lemmas.Result.{err_from_is_err_and}
use Rattle.vcm_num.proofs.KnownWrites.{front_first, wrote_then}
use Rattle.vcm_backtrace.proofs.loops.write_loop.Goals as goal

pub returns-in_err-write_round : goal.returns-in_err-write_round
returns-in_err-write_round g c =
    let p = err_from_is_err_and c.from_residual.result c.from_residual.ensures.1 in rw p.1 (front_first _ _ _ _ _ refl (rw c.round_of.ensures at c.in_err-write_round.ensures))

pub returns : goal.returns
returns g c = wrote_then _ _ _ _ _ _ _ refl (rw c.round_of.ensures at c.in_ok-write_round.ensures) c.write_index.ensures
