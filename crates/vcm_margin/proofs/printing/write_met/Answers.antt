use Rattle.std.proofs.Common.{refl}
use Rattle.std.proofs.lemmas.Result.{err_from_is_err_and}
use Rattle.vcm_num.proofs.KnownWrites.{front_first, wrote_then}
use Rattle.vcm_margin.proofs.printing.write_met.Goals as goal

pub returns-in_err-write_wider-in-Some : goal.returns-in_err-write_wider-in-Some
returns-in_err-write_wider-in-Some g c =
    let p = err_from_is_err_and c.from_residual.result c.from_residual.ensures.1 in
    rw (p.1, c.in-Some.is) (front_first _ _ _ _ _ refl c.in_err-write_wider-in-Some.ensures)

pub returns-in_ok-write_wider-in-Some : goal.returns-in_ok-write_wider-in-Some
returns-in_ok-write_wider-in-Some g c =
    rw c.in-Some.is (wrote_then _ _ _ _ _ _ _ refl c.in_ok-write_wider-in-Some.ensures c.write_difference_or_home.ensures)
