use Rattle.std.proofs.Common.{◌≤ℤ◌, pos, rules, arith, w64, FitsSigned, to_z-of_z}
use Rattle.std.proofs.lemmas.Int.{ints, clamps}
use Rattle.vcm_picture.proofs.window.grown.Goals as goal

pub returns-clause-to_most : goal.returns-clause-to_most
returns-clause-to_most c =
    let fs : FitsSigned w64 c.size.result = search rules in
    let fr : FitsSigned w64 c.max.result = search rules in
    let fq : FitsSigned w64 c.quotient.result = search rules in
    let fm : FitsSigned w64 c.args.most = search rules in
    let p = simp to_z-of_z at c.quotient.ensures.to_value in
    let z : pos 0 ≤ℤ c.args.most = omega (arith, ints) in
    let q : c.quotient.result ≤ℤ c.args.most = p z in
    let m = simp to_z-of_z at c.max.ensures.value in
    rw (to_z-of_z fr) (omega (arith, ints, clamps, m))
