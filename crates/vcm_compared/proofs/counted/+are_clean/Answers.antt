use Rattle.std.proofs.Common.{◌≡◌, ◌-◌, suc, arith}
use Rattle.vcm_compared.proofs.Steps.{clean_step}
use Rattle.vcm_compared.proofs.counted.+are_clean.Goals as goal

pub returns-then-is_clean : goal.returns-then-is_clean
returns-then-is_clean m c =
    let k : c.args.left ≡ suc (c.args.left - 1) = omega (arith, c.if-left-eq0.false) in
    let s = clean_step (c.args.left - 1) c.args.name.now c.in-Some.words in
    grind (arith, k, s, c.in-Some.is, c.are_clean.ensures, c.cut_at-field.ensures.front, c.cut_at-field.ensures.rest, c.is_clean.ensures, c.if-is_clean.true)
