use Rattle.std.proofs.Common.{◌≡◌, pos, refl, rules, w64, FitsSigned, to_z-of_z}
use Rattle.std.proofs.lemmas.Result.{err_from_is_err_and}
use Rattle.vcm_num.proofs.KnownWrites.{front_first, front_then, wrote_then}
use Rattle.vcm_why.proofs.approaches.write_free.Goals as goal

pub returns-in_err-write_all : goal.returns-in_err-write_all
returns-in_err-write_all g c =
    let p = err_from_is_err_and c.from_residual.result c.from_residual.ensures.1 in rw p.1 (front_first _ _ _ _ _ refl c.in_err-write_all.ensures)

pub returns-in_err-write_length : goal.returns-in_err-write_length
returns-in_err-write_length g c =
    let fx : FitsSigned w64 c.from.result = search rules in
    let e : c.from.result ≡ pos c.args.length = search rules in
    let p = err_from_is_err_and c.from_residual-in_err-write_length.result c.from_residual-in_err-write_length.ensures.1 in
    rw p.1 (front_then _ _ _ _ _ _ refl c.in_ok-write_all.ensures (front_first _ _ _ _ _ refl (rw (to_z-of_z fx, e) at c.in_err-write_length.ensures)))

pub returns : goal.returns
returns g c =
    let fx : FitsSigned w64 c.from.result = search rules in
    let e : c.from.result ≡ pos c.args.length = search rules in
    wrote_then _ _ _ _ _ _ _ refl c.in_ok-write_all.ensures (wrote_then _ _ _ _ _ _ _ refl (rw (to_z-of_z fx, e) at c.in_ok-write_length.ensures) c.write_all-2.ensures)
