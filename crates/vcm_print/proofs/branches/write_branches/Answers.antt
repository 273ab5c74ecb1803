use Rattle.std.proofs.Common.{refl}
use Rattle.std.proofs.lemmas.Result.{err_from_is_err_and}
use Rattle.vcm_num.proofs.KnownWrites.{front_first, front_then, wrote_then}
use Rattle.vcm_print.proofs.branches.write_branches.Goals as goal

pub returns-in_err-write_branch-in-Some : goal.returns-in_err-write_branch-in-Some
returns-in_err-write_branch-in-Some g c =
    let p = err_from_is_err_and c.from_residual.result c.from_residual.ensures.1 in
    rw (p.1, c.in-Some.ensures) (front_first _ _ _ _ _ refl c.in_err-write_branch-in-Some.ensures)

pub returns-in_err-write_more-in-Some : goal.returns-in_err-write_more-in-Some
returns-in_err-write_more-in-Some g c =
    let p = err_from_is_err_and c.from_residual-in_err-write_more-in-Some.result c.from_residual-in_err-write_more-in-Some.ensures.1 in
    rw (p.1, c.in-Some.ensures) (front_then _ _ _ _ _ _ refl c.in_ok-write_branch-in-Some.ensures (front_first _ _ _ _ _ refl c.in_err-write_more-in-Some.ensures))

pub returns-in-None : goal.returns-in-None
returns-in-None g c = rw c.in-None.ensures c.write_all.ensures

pub returns-in_ok-write_more-in-Some : goal.returns-in_ok-write_more-in-Some
returns-in_ok-write_more-in-Some g c =
    rw c.in-Some.ensures (wrote_then _ _ _ _ _ _ _ refl c.in_ok-write_branch-in-Some.ensures (wrote_then _ _ _ _ _ _ _ refl c.in_ok-write_more-in-Some.ensures c.write_all-in-Some.ensures))
