use Rattle.std.proofs.Common.{refl}
use Rattle.std.proofs.lemmas.Result.{err_from_is_err_and}
use Rattle.vcm_num.proofs.KnownWrites.{front_first, front_then, wrote_then}
use Rattle.vcm_report.proofs.FeatureLines.{line_is}
use Rattle.vcm_report.proofs.features.write_feature_line.Goals as goal

pub returns-in_err-write_all : goal.returns-in_err-write_all
returns-in_err-write_all g c =
    let p = err_from_is_err_and c.from_residual.result c.from_residual.ensures.1 in
    rw p.1 (front_first _ _ _ _ _ (line_is c.args.source c.args.name.now c.args.feature) (rw c.letters.ensures at c.in_err-write_all.ensures))

pub returns-in_err-write_all-2 : goal.returns-in_err-write_all-2
returns-in_err-write_all-2 g c =
    let p = err_from_is_err_and c.from_residual-in_err-write_all-2.result c.from_residual-in_err-write_all-2.ensures.1 in
    rw p.1 (front_then _ _ _ _ _ _ (line_is c.args.source c.args.name.now c.args.feature) (rw c.letters.ensures at c.in_ok-write_all.ensures) (front_first _ _ _ _ _ refl c.in_err-write_all-2.ensures))

pub returns-in_err-write_all-3 : goal.returns-in_err-write_all-3
returns-in_err-write_all-3 g c =
    let p = err_from_is_err_and c.from_residual-in_err-write_all-3.result c.from_residual-in_err-write_all-3.ensures.1 in
    rw p.1 (front_then _ _ _ _ _ _ (line_is c.args.source c.args.name.now c.args.feature) (rw c.letters.ensures at c.in_ok-write_all.ensures)
    (front_then _ _ _ _ _ _ refl c.in_ok-write_all-2.ensures (front_first _ _ _ _ _ refl c.in_err-write_all-3.ensures)))

pub returns-in_err-write_point : goal.returns-in_err-write_point
returns-in_err-write_point g c =
    let p = err_from_is_err_and c.from_residual-in_err-write_point.result c.from_residual-in_err-write_point.ensures.1 in
    rw p.1 (front_then _ _ _ _ _ _ (line_is c.args.source c.args.name.now c.args.feature) (rw c.letters.ensures at c.in_ok-write_all.ensures)
    (front_then _ _ _ _ _ _ refl c.in_ok-write_all-2.ensures
    (front_then _ _ _ _ _ _ refl c.in_ok-write_all-3.ensures (front_first _ _ _ _ _ refl c.in_err-write_point.ensures))))

pub returns-in_err-write_all-4 : goal.returns-in_err-write_all-4
returns-in_err-write_all-4 g c =
    let p = err_from_is_err_and c.from_residual-in_err-write_all-4.result c.from_residual-in_err-write_all-4.ensures.1 in
    rw p.1 (front_then _ _ _ _ _ _ (line_is c.args.source c.args.name.now c.args.feature) (rw c.letters.ensures at c.in_ok-write_all.ensures)
    (front_then _ _ _ _ _ _ refl c.in_ok-write_all-2.ensures
    (front_then _ _ _ _ _ _ refl c.in_ok-write_all-3.ensures
    (front_then _ _ _ _ _ _ refl c.in_ok-write_point.ensures (front_first _ _ _ _ _ refl c.in_err-write_all-4.ensures)))))

pub returns : goal.returns
returns g c = wrote_then _ _ _ _ _ _ _ (line_is c.args.source c.args.name.now c.args.feature) (rw c.letters.ensures at c.in_ok-write_all.ensures)
    (wrote_then _ _ _ _ _ _ _ refl c.in_ok-write_all-2.ensures
    (wrote_then _ _ _ _ _ _ _ refl c.in_ok-write_all-3.ensures
    (wrote_then _ _ _ _ _ _ _ refl c.in_ok-write_point.ensures (wrote_then _ _ _ _ _ _ _ refl c.in_ok-write_all-4.ensures c.write_direction.ensures))))
