use Rattle.std.proofs.Common.{◌≡◌, ◌∙◌, ap, min, take, length, arith}
use Rattle.std.proofs.lemmas.List.{take_min}
use Rattle.vcm_sheet.proofs.rows.first_rows.Goals as goal

pub returns : goal.returns
returns g c =
    let e : c.min.result ≡ min c.args.most (length c.args.rows.now) = omega (arith, c.min.ensures) in
    ap (λ n. take n c.args.rows.now) e ∙ take_min c.args.most c.args.rows.now
