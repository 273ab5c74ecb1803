use Rattle.std.proofs.Common.{rules, w64, FitsSigned, to_z-of_z}
use Rattle.vcm_svg.proofs.shapes.begin_text.Goals as goal

pub returns : goal.returns
returns c =
    let fs : FitsSigned w64 c.args.label.size = search rules in
    let fx : FitsSigned w64 c.args.label.at.x = search rules in
    let fy : FitsSigned w64 c.args.label.at.y = search rules in
    simp (to_z-of_z, c.attribute.ensures) at c.put.ensures
