use Rattle.std.proofs.Common.{rules, refl, w64, FitsSigned, to_z-of_z, pos, ◌+ℤ◌, ◌-ℤ◌}
use Rattle.vcm_num.specs.Point.{coordinate}
use Rattle.vcm_blocks.proofs.extent.bounds_round.Goals as goal

pub returns : goal.returns
returns c =
    let a : FitsSigned w64 (coordinate c.args.around.now.low 0) = search rules in
    let b : FitsSigned w64 (coordinate c.args.around.now.low 1) = search rules in
    let l : FitsSigned w64 (coordinate c.args.around.now.low 2) = search rules in
    let d : FitsSigned w64 (coordinate c.args.around.now.high 0) = search rules in
    let e : FitsSigned w64 (coordinate c.args.around.now.high 1) = search rules in
    let h : FitsSigned w64 (coordinate c.args.around.now.high 2) = search rules in
    let a1 : FitsSigned w64 (coordinate c.args.around.now.low 0 -ℤ pos 100000) = search rules in
    let b1 : FitsSigned w64 (coordinate c.args.around.now.low 1 -ℤ pos 100000) = search rules in
    let d1 : FitsSigned w64 (coordinate c.args.around.now.high 0 +ℤ pos 100000) = search rules in
    let e1 : FitsSigned w64 (coordinate c.args.around.now.high 1 +ℤ pos 100000) = search rules in
    let h1 : FitsSigned w64 (coordinate c.args.around.now.high 2 +ℤ pos 200000) = search rules in
    let h2 : FitsSigned w64 (coordinate c.args.around.now.high 2 +ℤ pos 100000) = search rules in
    rw (to_z-of_z a, to_z-of_z b, to_z-of_z l, to_z-of_z d, to_z-of_z e, to_z-of_z h, to_z-of_z a1, to_z-of_z b1, to_z-of_z d1, to_z-of_z e1, to_z-of_z h1, to_z-of_z h2) refl
