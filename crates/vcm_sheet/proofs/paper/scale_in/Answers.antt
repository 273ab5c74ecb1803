use Rattle.std.proofs.Common.{◌∙◌, rules, w64, FitsSigned, to_z-of_z}
use Rattle.vcm_sheet.proofs.paper.scale_in.Goals as goal

pub returns-clause-value : goal.returns-clause-value
returns-clause-value c =
    let fr : FitsSigned w64 c.scale_above.result = search rules in
    let fm : FitsSigned w64 c.max.result = search rules in
    let fa : FitsSigned w64 c.tenths-across.result = search rules in
    let fd : FitsSigned w64 c.tenths-down.result = search rules in
    let fx : FitsSigned w64 c.across_of.result = search rules in
    let fy : FitsSigned w64 c.down_of.result = search rules in
    let m = simp to_z-of_z at c.max.ensures.value in
    let a = simp to_z-of_z at c.tenths-across.ensures in
    let d = simp to_z-of_z at c.tenths-down.ensures in
    to_z-of_z fr ∙ rw (m, a, d, c.across_of.ensures, c.down_of.ensures) at (simp to_z-of_z at c.scale_above.ensures.value)
