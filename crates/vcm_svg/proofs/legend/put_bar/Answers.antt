use Rattle.std.proofs.Common.{◌∙◌, ap, rules, w64, FitsSigned, to_z-of_z}
use Rattle.vcm_svg.specs.Legend.{bar_of, bar_with}
use Rattle.vcm_svg.proofs.Appended.{last_same}
use Rattle.vcm_svg.proofs.legend.put_bar.Goals as goal

pub returns : goal.returns
returns c =
    let fw : FitsSigned w64 c.args.wide = search rules in
    let fq : FitsSigned w64 c.quotient.result = search rules in
    let q = simp to_z-of_z at c.quotient.ensures.value in
    let b = simp to_z-of_z at c.bar_of.ensures in
    last_same _ _ _ (λ l. bar_with c.args.at c.args.unit c.args.grain l) _ _ (b ∙ ap bar_of q) c.put_bar_with.ensures
