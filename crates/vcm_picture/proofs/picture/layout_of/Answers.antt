use Rattle.std.proofs.Common.{rules, w64, FitsSigned, to_z-of_z}
use Rattle.vcm_picture.proofs.picture.layout_of.Goals as goal

pub returns : goal.returns
returns c =
    let fu : FitsSigned w64 c.get.result = search rules in
    let fa : FitsSigned w64 c.args.above = search rules in
    let fx : FitsSigned w64 c.units.result = search rules in
    let fy : FitsSigned w64 c.units-2.result = search rules in
    let fz : FitsSigned w64 c.units-3.result = search rules in
    let e = simp to_z-of_z at c.layout_with.ensures in
    rw (c.units.ensures.units, c.units-2.ensures.units, c.units-3.ensures.units, c.get.ensures.number, c.unit.ensures.value) at e
