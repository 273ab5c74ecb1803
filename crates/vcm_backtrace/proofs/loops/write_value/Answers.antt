use Rattle.std.proofs.Common.{refl, rules, w64, FitsSigned, to_z-of_z}
use Rattle.std.proofs.lemmas.Result.{err_from_is_err_and}
use Rattle.vcm_num.proofs.KnownWrites.{front_first, front_then, wrote_then}
use Rattle.vcm_backtrace.proofs.loops.write_value.Goals as goal

pub returns-in_err-write_all : goal.returns-in_err-write_all
returns-in_err-write_all g c =
    let p = err_from_is_err_and c.from_residual-in_err-write_all.result c.from_residual-in_err-write_all.ensures.1 in
    rw p.1 (front_then _ _ _ _ _ _ refl c.in_ok-write_variable.ensures (front_first _ _ _ _ _ refl c.in_err-write_all.ensures))

pub returns : goal.returns
returns g c =
    let fx : FitsSigned w64 c.value_at-value.result = search rules in
    wrote_then _ _ _ _ _ _ _ refl c.in_ok-write_variable.ensures
    (wrote_then _ _ _ _ _ _ _ refl c.in_ok-write_all.ensures (rw (to_z-of_z fx, c.value_at-value.ensures) at c.write_variable_value.ensures))
