use Rattle.std.proofs.Common.{◌+ℤ◌, rules, arith, w64, FitsSigned, to_z-of_z}
use Rattle.std.proofs.lemmas.Int.{ints, clamps}
use Rattle.vcm_picture.proofs.window.longest.Goals as goal

pub returns-clause-value : goal.returns-clause-value
returns-clause-value c =
    let fr : FitsSigned w64 c.max.result = search rules in
    let fx : FitsSigned w64 c.args.x = search rules in
    let fy : FitsSigned w64 c.args.y = search rules in
    let fz : FitsSigned w64 c.args.z = search rules in
    let fa : FitsSigned w64 (c.args.x +ℤ c.args.y) = omega (arith, ints) in
    let fb : FitsSigned w64 (c.args.y +ℤ c.args.z) = omega (arith, ints) in
    rw (to_z-of_z fr) (simp to_z-of_z at c.max.ensures.value)

pub returns-clause-to_most : goal.returns-clause-to_most
returns-clause-to_most c =
    let fr : FitsSigned w64 c.max.result = search rules in
    let fx : FitsSigned w64 c.args.x = search rules in
    let fy : FitsSigned w64 c.args.y = search rules in
    let fz : FitsSigned w64 c.args.z = search rules in
    let fa : FitsSigned w64 (c.args.x +ℤ c.args.y) = omega (arith, ints) in
    let fb : FitsSigned w64 (c.args.y +ℤ c.args.z) = omega (arith, ints) in
    let m = simp to_z-of_z at c.max.ensures.value in
    rw (to_z-of_z fr) (omega (arith, ints, clamps, m))
