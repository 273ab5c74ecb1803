use Rattle.std.proofs.Common.{◌∙◌, ap, pos, rules, w64, FitsSigned, to_z-of_z}
use Rattle.std.specs.Int.{int_max}
use Rattle.vcm_sheet.specs.Ticks.{tick_step}
use Rattle.vcm_sheet.proofs.ticks.tick_step.Goals as goal

pub returns-clause-step : goal.returns-clause-step
unfolding tick_step
returns-clause-step c =
    let f : FitsSigned w64 c.max.result = search rules in
    let g : FitsSigned w64 c.first_from.result = search rules in
    to_z-of_z f ∙ (simp to_z-of_z at c.max.ensures.value) ∙ ap (λ z. int_max z (pos 1)) (simp (to_z-of_z, c.ranges.least) at c.first_from.ensures)
