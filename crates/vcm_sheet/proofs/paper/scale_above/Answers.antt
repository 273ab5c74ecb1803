use Rattle.std.proofs.Common.{◌∙◌, ap, rules, w64, FitsSigned, to_z-of_z}
use Rattle.vcm_sheet.specs.Paper.{scales, first_above, scale_above}
use Rattle.vcm_sheet.proofs.paper.scale_above.Goals as goal

pub returns-clause-value : goal.returns-clause-value
unfolding scale_above
returns-clause-value c =
    let f : FitsSigned w64 c.first_above.result = search rules in
    let g : FitsSigned w64 c.args.number = search rules in
    to_z-of_z f ∙ c.first_above.ensures.value ∙ ap (λ n. first_above n scales) (to_z-of_z g)
