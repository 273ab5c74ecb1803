use Rattle.std.proofs.Common.{refl}
use Rattle.std.proofs.lemmas.Result.{err_from_is_err_and}
use Rattle.vcm_num.proofs.KnownWrites.{front_first, front_then, wrote_then}
use Rattle.vcm_rows.proofs.part_rows.write_bounds.Goals as goal

pub returns-in_err-write_points_row : goal.returns-in_err-write_points_row
returns-in_err-write_points_row g c =
    let p = err_from_is_err_and c.from_residual.result c.from_residual.ensures.1 in
    rw p.1 (front_first _ _ _ _ _ refl c.in_err-write_points_row.ensures)

pub returns-in_err-write_point_row : goal.returns-in_err-write_point_row
returns-in_err-write_point_row g c =
    let p = err_from_is_err_and c.from_residual-in_err-write_point_row.result c.from_residual-in_err-write_point_row.ensures.1 in
    rw p.1 (front_then _ _ _ _ _ _ refl c.in_ok-write_points_row.ensures (front_first _ _ _ _ _ refl c.in_err-write_point_row.ensures))

pub returns : goal.returns
returns g c = wrote_then _ _ _ _ _ _ _ refl c.in_ok-write_points_row.ensures (wrote_then _ _ _ _ _ _ _ refl c.in_ok-write_point_row.ensures (c.write_tip.ensures))
