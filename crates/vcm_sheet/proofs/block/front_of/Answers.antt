use Rattle.std.proofs.Common.{◌≡◌, ◌∙◌, ap, min, take, length, arith}
use Rattle.std.proofs.lemmas.List.{take_min}
use Rattle.vcm_sheet.proofs.block.front_of.Goals as goal

pub returns : goal.returns
returns c =
    let e : c.min.result ≡ min c.args.most (length c.args.name.now) = omega (arith, c.min.ensures) in
    ap (λ n. take n c.args.name.now) e ∙ take_min c.args.most c.args.name.now
