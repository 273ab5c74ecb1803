use Rattle.std.proofs.Common.{◌≡◌, ◌∙◌, ap, min, take, length, arith}
use Rattle.std.proofs.lemmas.List.{take_min}
use Rattle.vcm_svg.proofs.notes.few_notes.Goals as goal

pub returns-clause-first : goal.returns-clause-first
returns-clause-first c =
    let e : c.min.result ≡ min 40 (length c.args.lines.now) = omega (arith, c.min.ensures) in
    ap (λ n. take n c.args.lines.now) e ∙ take_min 40 c.args.lines.now
