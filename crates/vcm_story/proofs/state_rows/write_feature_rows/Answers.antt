use Rattle.std.proofs.Common.{refl}
use Rattle.std.proofs.lemmas.Result.{err_from_is_err_and}
use Rattle.vcm_num.proofs.KnownWrites.{front_first, front_then, wrote_then}
use Rattle.vcm_story.proofs.state_rows.write_feature_rows.Goals as goal

pub returns-in_err-write_there : goal.returns-in_err-write_there
returns-in_err-write_there g c =
    let p = err_from_is_err_and c.from_residual.result c.from_residual.ensures.1 in
    rw p.1 (front_first _ _ _ _ _ refl (rw (c.tables.ensures, c.feature_at-nominal.ensures, c.nominal.ensures) at c.in_err-write_there.ensures))

pub returns : goal.returns
returns g c = wrote_then _ _ _ _ _ _ _ refl (rw (c.tables.ensures, c.feature_at-nominal.ensures, c.nominal.ensures) at c.in_ok-write_there.ensures)
    ((rw (c.tables-2.ensures, c.feature_at-actual.ensures, c.actual.ensures) at c.write_there-2.ensures))
