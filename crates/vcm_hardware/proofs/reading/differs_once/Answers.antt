use Rattle.std.proofs.Common.{rules, w32, FitsSigned, to_z-of_z}
use Rattle.vcm_hardware.proofs.reading.differs_once.Goals as goal

pub returns : goal.returns
returns c =
    let f1 : FitsSigned w32 c.args.from.x = search rules in
    let f2 : FitsSigned w32 c.args.from.y = search rules in
    let f3 : FitsSigned w32 c.args.from.z = search rules in
    let f4 : FitsSigned w32 c.args.to.x = search rules in
    let f5 : FitsSigned w32 c.args.to.y = search rules in
    let f6 : FitsSigned w32 c.args.to.z = search rules in
    let x = simp to_z-of_z at c.is_same.ensures in
    let y = simp to_z-of_z at c.is_same-2.ensures in
    let z = simp to_z-of_z at c.is_same-3.ensures in
    rw (x, y, z) at c.one_of_three.ensures
