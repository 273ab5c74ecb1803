use Rattle.std.proofs.Common.{◌-ℤ◌, ◌≤ℤ◌, pos, rules, arith, w64, FitsSigned, to_z-of_z}
use Rattle.std.proofs.lemmas.Int.{ints}
use Rattle.vcm_picture.specs.Ranges.{IsPart}
use Rattle.vcm_picture.proofs.Extents.{sixteenth, low_same}
use Rattle.vcm_picture.proofs.window.low_of.Goals as goal

pub overflow_sub-result : goal.overflow_sub-result
overflow_sub-result c =
    let fz : FitsSigned w64 c.size.result = search rules in
    let fg : FitsSigned w64 c.grown.result = search rules in
    let fq : FitsSigned w64 c.quotient.result = search rules in
    let fl : FitsSigned w64 c.low.result = search rules in
    let le : c.size.result ≤ℤ c.grown.result = rw c.size.ensures.value c.grown.ensures.from_size in
    let fd : FitsSigned w64 (c.grown.result -ℤ c.size.result) = omega (arith, ints) in
    let v : pos 0 ≤ℤ (c.grown.result -ℤ c.size.result) = omega (arith, ints) in
    let n = simp to_z-of_z at c.quotient.ensures.from_zero in
    let t = simp to_z-of_z at c.quotient.ensures.to_value in
    let lower : pos 0 ≤ℤ c.quotient.result = n v in
    let upper : c.quotient.result ≤ℤ (c.grown.result -ℤ c.size.result) = t v in
    omega (arith, ints)

pub overflow_sub-result-2 : goal.overflow_sub-result-2
overflow_sub-result-2 c =
    let fz : FitsSigned w64 c.size.result = search rules in
    let fg : FitsSigned w64 c.grown.result = search rules in
    let fq : FitsSigned w64 c.quotient.result = search rules in
    let fl : FitsSigned w64 c.low.result = search rules in
    let le : c.size.result ≤ℤ c.grown.result = rw c.size.ensures.value c.grown.ensures.from_size in
    let fd : FitsSigned w64 (c.grown.result -ℤ c.size.result) = omega (arith, ints) in
    let v : pos 0 ≤ℤ (c.grown.result -ℤ c.size.result) = omega (arith, ints) in
    let n = simp to_z-of_z at c.quotient.ensures.from_zero in
    let t = simp to_z-of_z at c.quotient.ensures.to_value in
    let lower : pos 0 ≤ℤ c.quotient.result = n v in
    let upper : c.quotient.result ≤ℤ (c.grown.result -ℤ c.size.result) = t v in
    let fp : FitsSigned w64 c.quotient-2.result = search rules in
    let fm : FitsSigned w64 c.args.most = search rules in
    let d = simp to_z-of_z at c.quotient-2.ensures.value in
    let s : IsPart c.quotient-2.result = sixteenth _ _ c.requires.most d in
    let f1 : FitsSigned w64 (c.low.result -ℤ c.quotient.result) = omega (arith, ints) in
    omega (arith, ints)

pub returns-clause-value : goal.returns-clause-value
returns-clause-value c =
    let fz : FitsSigned w64 c.size.result = search rules in
    let fg : FitsSigned w64 c.grown.result = search rules in
    let fq : FitsSigned w64 c.quotient.result = search rules in
    let fl : FitsSigned w64 c.low.result = search rules in
    let le : c.size.result ≤ℤ c.grown.result = rw c.size.ensures.value c.grown.ensures.from_size in
    let fd : FitsSigned w64 (c.grown.result -ℤ c.size.result) = omega (arith, ints) in
    let v : pos 0 ≤ℤ (c.grown.result -ℤ c.size.result) = omega (arith, ints) in
    let n = simp to_z-of_z at c.quotient.ensures.from_zero in
    let t = simp to_z-of_z at c.quotient.ensures.to_value in
    let lower : pos 0 ≤ℤ c.quotient.result = n v in
    let upper : c.quotient.result ≤ℤ (c.grown.result -ℤ c.size.result) = t v in
    let fp : FitsSigned w64 c.quotient-2.result = search rules in
    let fm : FitsSigned w64 c.args.most = search rules in
    let d = simp to_z-of_z at c.quotient-2.ensures.value in
    let s : IsPart c.quotient-2.result = sixteenth _ _ c.requires.most d in
    let f1 : FitsSigned w64 (c.low.result -ℤ c.quotient.result) = omega (arith, ints) in
    let f2 : FitsSigned w64 (c.low.result -ℤ c.quotient.result -ℤ c.quotient-2.result) = omega (arith, ints) in
    let e = simp to_z-of_z at c.grown.ensures.value in
    let z = c.size.ensures.value in
    let p = simp to_z-of_z at c.quotient.ensures.value in
    let l = c.low.ensures.value in
    simp to_z-of_z (rw l (low_same c.args.span c.args.most _ _ _ _ e z p d))

pub returns-clause-edge : goal.returns-clause-edge
returns-clause-edge c =
    let fz : FitsSigned w64 c.size.result = search rules in
    let fg : FitsSigned w64 c.grown.result = search rules in
    let fq : FitsSigned w64 c.quotient.result = search rules in
    let fl : FitsSigned w64 c.low.result = search rules in
    let le : c.size.result ≤ℤ c.grown.result = rw c.size.ensures.value c.grown.ensures.from_size in
    let fd : FitsSigned w64 (c.grown.result -ℤ c.size.result) = omega (arith, ints) in
    let v : pos 0 ≤ℤ (c.grown.result -ℤ c.size.result) = omega (arith, ints) in
    let n = simp to_z-of_z at c.quotient.ensures.from_zero in
    let t = simp to_z-of_z at c.quotient.ensures.to_value in
    let lower : pos 0 ≤ℤ c.quotient.result = n v in
    let upper : c.quotient.result ≤ℤ (c.grown.result -ℤ c.size.result) = t v in
    let fp : FitsSigned w64 c.quotient-2.result = search rules in
    let fm : FitsSigned w64 c.args.most = search rules in
    let d = simp to_z-of_z at c.quotient-2.ensures.value in
    let s : IsPart c.quotient-2.result = sixteenth _ _ c.requires.most d in
    let f1 : FitsSigned w64 (c.low.result -ℤ c.quotient.result) = omega (arith, ints) in
    let f2 : FitsSigned w64 (c.low.result -ℤ c.quotient.result -ℤ c.quotient-2.result) = omega (arith, ints) in
    simp to_z-of_z (record { from_below = omega (arith, ints); from_above = omega (arith, ints) })
