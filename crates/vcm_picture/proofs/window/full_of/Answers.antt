use Rattle.std.proofs.Common.{◌+ℤ◌, ◌*ℤ◌, pos, rules, arith, w64, FitsSigned, to_z-of_z}
use Rattle.std.proofs.lemmas.Int.{ints}
use Rattle.vcm_picture.specs.Ranges.{IsPart}
use Rattle.vcm_picture.proofs.Extents.{sixteenth, sum_same}
use Rattle.vcm_picture.proofs.window.full_of.Goals as goal

pub returns-clause-value : goal.returns-clause-value
returns-clause-value c =
    let fg : FitsSigned w64 c.grown.result = search rules in
    let fq : FitsSigned w64 c.quotient.result = search rules in
    let fm : FitsSigned w64 c.args.most = search rules in
    let d = simp to_z-of_z at c.quotient.ensures.value in
    let s : IsPart c.quotient.result = sixteenth _ _ c.requires.most d in
    let f2 : FitsSigned w64 (pos 2 *ℤ c.quotient.result) = omega (arith, ints) in
    let fs : FitsSigned w64 (c.grown.result +ℤ pos 2 *ℤ c.quotient.result) = omega (arith, ints) in
    let e = simp to_z-of_z at c.grown.ensures.value in
    simp to_z-of_z (sum_same _ _ _ _ e d)

pub returns-clause-to_most : goal.returns-clause-to_most
returns-clause-to_most c =
    let fg : FitsSigned w64 c.grown.result = search rules in
    let fq : FitsSigned w64 c.quotient.result = search rules in
    let fm : FitsSigned w64 c.args.most = search rules in
    let d = simp to_z-of_z at c.quotient.ensures.value in
    let s : IsPart c.quotient.result = sixteenth _ _ c.requires.most d in
    omega (arith, ints)
