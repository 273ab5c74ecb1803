use Rattle.std.proofs.Common.{rules, w32, w64, FitsSigned, to_z-of_z}
use Rattle.vcm_hardware.proofs.writing.put_angle.Goals as goal

pub returns : goal.returns
returns c =
    let fa : FitsSigned w32 c.args.angle = search rules in
    let fd : FitsSigned w64 c.degrees_of.result = search rules in
    let fr : FitsSigned w32 c.rest_of.result = search rules in
    let d = simp to_z-of_z at c.degrees_of.ensures in
    let r = simp to_z-of_z at c.rest_of.ensures in
    let h = simp to_z-of_z at c.half_text.ensures in
    let all = simp to_z-of_z at c.put.ensures in
    rw (d, h, r) at all
