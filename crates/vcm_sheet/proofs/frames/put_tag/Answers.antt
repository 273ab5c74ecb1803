use Rattle.std.proofs.Common.{rules, w64, FitsSigned, to_z-of_z}
use Rattle.vcm_sheet.proofs.frames.put_tag.Goals as goal

pub returns : goal.returns
returns c =
    let fu : FitsSigned w64 c.get.result = search rules in
    let fv : FitsSigned w64 c.get-2.result = search rules in
    let fx : FitsSigned w64 c.args.spot.x = search rules in
    let fy : FitsSigned w64 c.args.spot.y = search rules in
    let e = simp to_z-of_z at c.put.ensures in
    rw (c.get.ensures.number, c.get-2.ensures.number) at e
